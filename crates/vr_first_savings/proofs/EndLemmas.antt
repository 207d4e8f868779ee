-- The ends of routes that stand apart.
use Rattle.std.proofs.Common.{◌≡◌, ◌∙◌, ◌<◌, ℕ, List, [], length, ap, subst, sym}
use Rattle.std.specs.Prelude.{All, map, slice_index_or}
use Rattle.std.proofs.lemmas.List.{get_or-map, length-map}
use Rattle.std.proofs.lemmas.List.Elements.{All-from_get_or, All-map}
use Rattle.vr_model.specs.declared.records.Model.{Model}
use Rattle.vr_model.specs.tables.Tables.{no_vehicle, vehicle_at}
use Rattle.vr_model.specs.tables.WellFormed.{IsWellFormed}
use Rattle.vr_model.specs.routes.Routes.{route}
use Rattle.vr_model.specs.first.Items.{first_node, last_node}
use Rattle.vr_model.proofs.tables.Bounds.{arc_cost_in_range}
use Rattle.vr_first_savings.specs.declared.ends.EndsOfRoute.{EndsOfRoute}
use Rattle.vr_first_savings.specs.Joins.{AreApart}
use Rattle.vr_first_savings.specs.RouteEnds.{ends_of, no_ends, AreRouteEnds}
use Rattle.vr_first_savings.proofs.JoinLemmas.{last-below, first-below}

-- the ends of each route are ends
pub are_ends : (model : Model) (routes : List (List ℕ)) (i : ℕ) → IsWellFormed model
    → AreApart model routes → i < length routes → AreRouteEnds model (ends_of model (route routes i))
are_ends model routes i well are low =
    let some : 0 < length model.vehicles = well.number_of_vehicles.at_least in
    let last = last-below model routes i are low in
    let first = first-below model routes i are low in
    record {
      last_below = last;
      first_below = first;
      to_end_in_range =
          arc_cost_in_range model well 0 (last_node (route routes i)) (vehicle_at model 0).end some last (well.each_vehicle 0 no_vehicle some).end_in_range;
      from_start_in_range = arc_cost_in_range model well 0 (vehicle_at model 0).start
          (first_node (route routes i)) some (well.each_vehicle 0 no_vehicle some).start_in_range first;
    }

-- the ends that code reads
pub ends_read : (model : Model) (routes : List (List ℕ)) (ends : List EndsOfRoute) (i : ℕ)
    → ends ≡ map (ends_of model) routes → i < length ends → slice_index_or ends i no_ends ≡ ends_of model (route routes i)
ends_read model routes ends i are low =
    ap (λ es. slice_index_or es i no_ends) are
    ∙ get_or-map (ends_of model) routes i [] no_ends (subst (λ n. i < n) (ap length are ∙ length-map routes (ends_of model)) low)

-- those of all routes are ends
pub all_are_ends : (model : Model) (routes : List (List ℕ)) (ends : List EndsOfRoute) → IsWellFormed model
    → AreApart model routes → ends ≡ map (ends_of model) routes → All (AreRouteEnds model) ends
all_are_ends model routes ends well apart are =
    subst (All (AreRouteEnds model)) (sym are) (All-map (AreRouteEnds model) (ends_of model) routes
    (All-from_get_or (λ nodes. AreRouteEnds model (ends_of model nodes)) routes [] (λ i low. are_ends model routes i well apart low)))
