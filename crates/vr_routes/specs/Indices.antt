-- The numbers of visits, starts and ends.
use Rattle.std.specs.Prelude.{◌≡◌, ◌⊎◌, ℕ, ◌+◌, ◌<◌, ◌≤◌, false, List, [], length, map, slice_index, All}
use Rattle.vr_model.specs.tables.Tables.{visits}
use Rattle.vr_model.specs.routes.Routes.{route, is_active}
use Rattle.vr_model.specs.declared.records.Model.{Model}
use Rattle.vr_model.specs.declared.records.Vehicle.{Vehicle}
use Rattle.vr_routes.specs.Seats.{IsSeat, Seated}
use Rattle.vr_routes.specs.Tours.{Tours}

-- the visits ascending, and the starts and the ends of the vehicles: their places in the three lists, joined, are the
-- indices
pub record Numbering : Type 0 where
  pub visits : List ℕ
  pub starts : List ℕ
  pub ends : List ℕ

-- the start and the end of a vehicle
abbrev pub start_node_of : Vehicle → ℕ
start_node_of vehicle = vehicle.start

abbrev pub end_node_of : Vehicle → ℕ
end_node_of vehicle = vehicle.end

-- the indices of a model
abbrev pub numbering : Model → Numbering
numbering model = record {
  visits = visits model;
  starts = map start_node_of model.vehicles;
  ends = map end_node_of model.vehicles;
}

-- the index of the start of v, and of its end
abbrev pub start_index : Tours → ℕ → ℕ
start_index tours v = length tours.visits + v

abbrev pub end_index : Tours → ℕ → ℕ
end_index tours v = length tours.visits + (length tours.lists + v)

-- index i is that of a visit, which is stop s of v
abbrev pub IsVisitStop : Tours → ℕ → ℕ → ℕ → Type 0
IsVisitStop tours i v s =
    (k : ℕ) × (s ≡ k + 1) × (i < length tours.visits) × IsSeat tours.lists (slice_index tours.visits i) v k

-- index i is that of stop s of v: the stops are the start, the visits and the end
abbrev pub IsStop : Tours → ℕ → ℕ → ℕ → Type 0
IsStop tours i v s =
    ((s ≡ 0) × (i ≡ start_index tours v))
    ⊎ (IsVisitStop tours i v s ⊎ ((s ≡ length (route tours.lists v) + 1) × (i ≡ end_index tours v)))

-- a used vehicle goes from index i to index j
pub record IsNext (tours : Tours) (i j : ℕ) : Type 0 where
  pub vehicle : ℕ
  pub stop : ℕ
  pub there : vehicle < length tours.lists
  pub used : 0 < length (route tours.lists vehicle)
  pub from : IsStop tours i vehicle stop
  pub to : IsStop tours j vehicle (stop + 1)

-- index i is that of a visit in no list
abbrev pub IsInactiveIndex : Tours → ℕ → Type 0
IsInactiveIndex tours i = (i < length tours.visits) × (is_active tours.lists (slice_index tours.visits i) ≡ false)

-- nothing follows: an inactive visit, the start of an unused vehicle, or an end
abbrev pub HasNoNext : Tours → ℕ → Type 0
HasNoNext tours i =
    IsInactiveIndex tours i
    ⊎ (((v : ℕ) × (i ≡ start_index tours v) × (route tours.lists v ≡ [])) ⊎ (end_index tours 0 ≤ i))

-- nothing comes before: an inactive visit, the end of an unused vehicle, or a start
abbrev pub HasNoPrevious : Tours → ℕ → Type 0
HasNoPrevious tours i =
    IsInactiveIndex tours i
    ⊎ (((v : ℕ) × (i ≡ end_index tours v) × (route tours.lists v ≡ []))
    ⊎ ((v : ℕ) × (v < length tours.lists) × (i ≡ start_index tours v)))

-- what holds of all indices: one list of few visits, each of them one of the nodes, few starts, and as many ends
pub record AreNumbered (visits : Seated) (starts ends : List ℕ) : Type 0 where
  pub one_list : length visits.lists ≡ 1
  pub few_visits : length (route visits.lists 0) ≤ 1000
  pub few_vehicles : length starts ≤ 100
  pub as_many_ends : length ends ≡ length starts
  pub each_visit_is_node : All (λ node. node < visits.nodes) (route visits.lists 0)
