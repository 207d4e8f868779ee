use Rattle.std.proofs.Common.{◌≡◌, ◌∙◌, ℕ, [], ap, sym, subst}
use Rattle.std.proofs.lemmas.List.{get_or_default, set-get_or}
use Rattle.vr_model.specs.routes.Routes.{route}
use Rattle.vr_model.specs.moves.Moves.{with_route}
use Rattle.vr_first_insert.specs.Kept.{AreKnownRows}
use Rattle.vr_first_insert.proofs.KeptLemmas.{rows-forgotten}
use Rattle.vr_first_insert.proofs.keeper.take_list.Goals as goal

pub returns-then-is_same_list-clause-lists : goal.returns-then-is_same_list-clause-lists
returns-then-is_same_list-clause-lists c =
    let lists = c.args.lists.now in
    let v : ℕ = c.args.new.now.vehicle in
    let before : c.as_slice-before.result.now ≡ route lists v = c.as_slice-before.ensures ∙ get_or_default lists v c.index-lists-v.result [] c.requires.there in
    sym (set-get_or lists v []) ∙ ap (with_route lists v) (sym before ∙ c.is_same_list.ensures c.if-is_same_list.true)

pub forget-requires : goal.forget-requires
forget-requires c = record { vehicle = c.requires.known }

pub returns-clause-known : goal.returns-clause-known
returns-clause-known c = λ known are.
    subst (λ lists. AreKnownRows c.args.new.now.lookups.now.closed.model.now lists known c.forget.new.known_items) (sym c.in_ok-change_list.ensures.lists)
    (rows-forgotten c.args.new.now.lookups.now.closed.model.now c.args.lists.now known c.args.known_items.now
    c.forget.new.known_items c.args.new.now.vehicle c.args.new.now.nodes.now c.requires.there are c.forget.ensures)
