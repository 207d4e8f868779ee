-- What is seen of routes.
use Rattle.std.specs.Prelude.{◌≡◌, ℕ, ◌<◌, ◌≤◌, Bool, List, length, filter, not, IsTrue, All}
use Rattle.std.specs.List.{list_all}
use Rattle.std.specs.List.Sorted.{IsStrictlyIncreasing}
use Rattle.vr_model.specs.tables.Tables.{is_visit}
use Rattle.vr_model.specs.routes.Routes.{route, holds, is_active, vehicles}
use Rattle.vr_model.specs.routes.Rules.{is_route_open}
use Rattle.vr_routes.specs.Seats.{Seated}
use Rattle.vr_model.specs.declared.records.Model.{Model}

-- a list of visits for each vehicle, and the visits that may be in them, ascending
pub record Tours : Type 0 where
  pub visits : List ℕ
  pub lists : List (List ℕ)

-- the visits in no list, ascending
abbrev pub inactive_of : List ℕ → List (List ℕ) → List ℕ
inactive_of visits lists = filter (λ node. not (is_active lists node)) visits

-- one list of visits that ascend, each of them one of the few nodes, and lists of them over the same nodes. There are
-- few vehicles, and each entry is a visit
pub record AreSeatedTours (visits seating : Seated) : Type 0 where
  pub one_list : length visits.lists ≡ 1
  pub same_nodes : visits.nodes ≡ seating.nodes
  pub few_nodes : seating.nodes ≤ 1000
  pub few_vehicles : length seating.lists ≤ 100
  pub few_visits : length (route visits.lists 0) ≤ 1000
  pub visits_ascend : IsStrictlyIncreasing (route visits.lists 0)
  pub each_visit_is_node : All (λ node. node < seating.nodes) (route visits.lists 0)
  pub each_entry_is_visit : (node : ℕ)
      → IsTrue (is_active seating.lists node) → IsTrue (holds (route visits.lists 0) node)

-- what holds of all routes: lists of visits, and what is kept of the inactive ones
pub record AreToursKept (visits seating : Seated) (inactive : List ℕ) : Type 0 where
  pub tours : AreSeatedTours visits seating
  pub inactive_ones : inactive ≡ inactive_of (route visits.lists 0) seating.lists

-- each entry of the lists is a visit
abbrev pub HaveVisits : Model → List (List ℕ) → Type 0
HaveVisits model lists = (node : ℕ) → IsTrue (is_active lists node) → IsTrue (is_visit model node)

-- each vehicle may drive its list
abbrev pub are_routes_open : Model → List (List ℕ) → Bool
are_routes_open model lists = list_all (λ v. is_route_open model v (route lists v)) (vehicles lists)
