use Rattle.std.proofs.Common.{◌∙◌, ℕ, List, suc, length, map, ap}
use Rattle.std.specs.Prelude.{filter}
use Rattle.vr_model.specs.tables.Numbers.{from_to, below, each}
use Rattle.vr_model.specs.routes.Routes.{route}
use Rattle.vr_model.specs.moves.Moves.{gaps, has_some_front}
use Rattle.vr_model.specs.declared.neighbours.Move.{Move}
use Rattle.vr_model.specs.declared.neighbours.Move.TheVariants.{Cross}
use Rattle.vr_known.proofs.NestLemmas.{joined_all_below}
use Rattle.vr_moves_cross.proofs.cross_moves.cross_chains.Goals as goal

pub returns : goal.returns
returns c model =
    let lists : List (List ℕ) = c.args.routes.now.lists in
    let at : ℕ → List Move = λ v. each (gaps (route lists v))
    (λ a. each (from_to (suc v) (length lists)) (λ w. map (Cross v a w) (filter (has_some_front a) (gaps (route lists w))))) in
    c.new-2.ensures ∙ c.new.ensures ∙ (joined_all_below at c.vehicles-vehicles.result ∙ ap (λ n. each (below n) at) c.vehicles-vehicles.ensures.value)
