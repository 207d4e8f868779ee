use Rattle.std.proofs.Common.{◌∙◌, ℕ, List, map, ap}
use Rattle.std.specs.Prelude.{filter}
use Rattle.vr_model.specs.tables.Numbers.{below, each}
use Rattle.vr_model.specs.routes.Routes.{route, vehicles}
use Rattle.vr_model.specs.moves.Moves.{places, gaps, is_other}
use Rattle.vr_model.specs.declared.neighbours.Move.{Move}
use Rattle.vr_model.specs.declared.neighbours.Move.TheVariants.{Relocate}
use Rattle.vr_known.proofs.NestLemmas.{joined_all_below}
use Rattle.vr_moves_cross.proofs.relocate_moves.relocate.Goals as goal

pub returns : goal.returns
returns c model =
    let lists : List (List ℕ) = c.args.routes.now.lists in
    let at : ℕ → List Move = λ v. each (places (route lists v))
    (λ a. each (filter (is_other v) (vehicles lists)) (λ w. map (Relocate v a w) (gaps (route lists w)))) in
    c.new-2.ensures ∙ c.new.ensures ∙ (joined_all_below at c.vehicles-vehicles.result ∙ ap (λ n. each (below n) at) c.vehicles-vehicles.ensures.value)
