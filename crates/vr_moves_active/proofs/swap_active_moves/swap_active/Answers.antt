use Rattle.std.proofs.Common.{◌∙◌, ℕ, List, map, ap}
use Rattle.vr_model.specs.tables.Numbers.{below, each}
use Rattle.vr_model.specs.routes.Routes.{route, vehicles}
use Rattle.vr_model.specs.moves.Moves.{places}
use Rattle.vr_routes.specs.Tours.{inactive_of}
use Rattle.vr_model.specs.declared.neighbours.Move.{Move}
use Rattle.vr_model.specs.declared.neighbours.Move.TheVariants.{SwapActive}
use Rattle.vr_known.proofs.NestLemmas.{joined_all_below}
use Rattle.vr_moves_active.proofs.swap_active_moves.swap_active.Goals as goal

pub returns : goal.returns
returns c model same =
    let lists : List (List ℕ) = c.args.routes.now.lists in
    let at : List ℕ → ℕ → List Move = λ nodes v. each (places (route lists v)) (λ a. map (SwapActive v a) nodes) in
    let nodes : List ℕ = c.inactive-nodes.result.now in
    c.new-2.ensures ∙ c.new.ensures
    ∙ (joined_all_below (at nodes) c.vehicles-vehicles.result ∙ ap (λ n. each (below n) (at nodes)) c.vehicles-vehicles.ensures.value
    ∙ ap (λ l. each (vehicles lists) (at l)) (c.inactive-nodes.ensures.value ∙ ap (λ l. inactive_of l lists) same))
