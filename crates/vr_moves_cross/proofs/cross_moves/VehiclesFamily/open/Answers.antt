use Rattle.std.proofs.Common.{◌∙◌, ◌+◌, ℕ, List, suc, length, map, ap, add-one}
use Rattle.std.specs.Prelude.{filter}
use Rattle.vr_model.specs.tables.Numbers.{from_to, below, each}
use Rattle.vr_model.specs.routes.Routes.{route}
use Rattle.vr_model.specs.moves.Moves.{gaps, has_some_front}
use Rattle.vr_model.specs.declared.neighbours.Move.{Move}
use Rattle.vr_model.specs.declared.neighbours.Move.TheVariants.{Cross}
use Rattle.vr_known.proofs.NestLemmas.{joined_all_below}
use Rattle.vr_moves_cross.proofs.cross_moves.VehiclesFamily.open.Goals as goal

pub returns : goal.returns
returns c =
    let lists : List (List ℕ) = c.args.self.now.routes.now.lists in
    let at : ℕ → List Move = λ a. each (from_to (suc c.args.k) (length lists))
    (λ w. map (Cross c.args.k a w) (filter (has_some_front a) (gaps (route lists w)))) in
    c.new.ensures ∙ (joined_all_below at (c.len.result + 1) ∙ ap (λ n. each (below n) at) (add-one c.len.result ∙ ap suc c.len.ensures.value))
