use Rattle.std.proofs.Common.{◌∙◌, ◌++◌, ◌∷◌, [], ℕ, List, cond, ap, sym}
use Rattle.std.specs.Prelude.{filter}
use Rattle.vr_model.specs.tables.Numbers.{below}
use Rattle.vr_model.specs.routes.Routes.{route}
use Rattle.vr_model.specs.moves.Moves.{with_route}
use Rattle.vr_model.specs.tables.Tables.{is_visit}
use Rattle.vr_routes.proofs.TourLemmas.{append_none, filter_below_more, next_not_held}
use Rattle.vr_routes.proofs.routes.add_visit.Goals as goal

pub put-requires-clause-inactive : goal.put-requires-clause-inactive
put-requires-clause-inactive c = next_not_held (is_visit c.args.model.now) c.args.node c.args.seating.now.lists c.requires.before

pub returns-then-is_visit-clause-lists : goal.returns-then-is_visit-clause-lists
returns-then-is_visit-clause-lists c =
    let p = is_visit c.args.model.now in
    let n = c.args.node in
    let front : List ℕ = filter p (below n) in
    c.put.ensures.lists ∙ ap (λ l. with_route l 0 (route l 0 ++ n ∷ [])) c.requires.before
    ∙ ap (λ l. l ∷ []) (sym (filter_below_more p n ∙ ap (λ t. front ++ cond t (n ∷ []) []) (sym c.is_visit.ensures ∙ c.if-is_visit.true)))

pub returns-else-is_visit-clause-lists : goal.returns-else-is_visit-clause-lists
returns-else-is_visit-clause-lists c =
    let p = is_visit c.args.model.now in
    let n = c.args.node in
    let front : List ℕ = filter p (below n) in
    c.requires.before
    ∙ ap (λ l. l ∷ []) (sym (filter_below_more p n ∙ ap (λ t. front ++ cond t (n ∷ []) []) (sym c.is_visit.ensures ∙ c.if-is_visit.false) ∙ append_none front))
