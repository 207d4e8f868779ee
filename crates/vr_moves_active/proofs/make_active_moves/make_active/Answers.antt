use Rattle.std.proofs.Common.{◌∙◌, ℕ, List, length, map, ap}
use Rattle.std.specs.Prelude.{slice_index}
use Rattle.vr_model.specs.tables.Numbers.{each}
use Rattle.vr_model.specs.routes.Routes.{route, vehicles}
use Rattle.vr_model.specs.moves.Moves.{gaps}
use Rattle.vr_routes.specs.Tours.{inactive_of}
use Rattle.vr_model.specs.declared.neighbours.Move.{Move}
use Rattle.vr_model.specs.declared.neighbours.Move.TheVariants.{MakeActive}
use Rattle.vr_known.proofs.NestLemmas.{joined_all_below, each_places}
use Rattle.vr_moves_active.proofs.make_active_moves.make_active.Goals as goal

pub returns : goal.returns
returns c model same =
    let lists : List (List ℕ) = c.args.routes.now.lists in
    let nodes : List ℕ = c.inactive-nodes.result.now in
    let of : ℕ → List Move = λ u. each (vehicles lists) (λ w. map (MakeActive u w) (gaps (route lists w))) in
    let at : ℕ → List Move = λ k. of (slice_index nodes k) in
    c.new-2.ensures ∙ c.new.ensures
    ∙ (joined_all_below at (length nodes) ∙ each_places of nodes
    ∙ ap (λ l. each l of) (c.inactive-nodes.ensures.value ∙ ap (λ l. inactive_of l lists) same))
