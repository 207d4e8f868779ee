-- Lists of visits, one for each vehicle: the routes without their starts and ends.
use Rattle.std.specs.Prelude.{ℕ, Bool, true, false, not, ◌&&◌, ◌==◌, List, [], ◌∷◌, ◌++◌, length, filter}
use Rattle.std.specs.Prelude.{slice_index_or, ℤ}
use Rattle.std.specs.List.{list_all, list_any, concat}
use Rattle.vr_model.specs.tables.Numbers.{total_by, below, each, are_same_by}
use Rattle.vr_model.specs.tables.Tables.{vehicle_at, arc_cost, is_visit, visits}
use Rattle.vr_model.specs.declared.records.Model.{Model}

-- the list of vehicle v
abbrev pub route : List (List ℕ) → ℕ → List ℕ
route lists v = slice_index_or lists v []

-- a number is in a list
abbrev pub holds : List ℕ → ℕ → Bool
holds xs x = list_any (λ y. x == y) xs

-- two lists of nodes are the same
abbrev pub is_same : List ℕ → List ℕ → Bool
is_same xs ys = are_same_by (λ x y. x == y) xs ys

-- no number is in the list twice
abbrev pub is_distinct : List ℕ → Bool
is_distinct [] = true
is_distinct (x ∷ xs) = not (holds xs x) && is_distinct xs

-- the lists are lists of the model: one for each vehicle, each entry a visit, and no visit twice in all of them
abbrev pub are_lists : Model → List (List ℕ) → Bool
are_lists model lists = (length lists == length model.vehicles)
    && (list_all (is_visit model) (concat lists)
    && is_distinct (concat lists))

-- a list without entries
abbrev pub is_empty : {A : Type 0} → List A → Bool
is_empty [] = true
is_empty (x ∷ xs) = false

-- the numbers of the vehicles
abbrev pub vehicles : List (List ℕ) → List ℕ
vehicles lists = below (length lists)

-- the vehicles that are used, ascending: their list is not empty
abbrev pub used_vehicles : List (List ℕ) → List ℕ
used_vehicles lists = filter (λ v. not (is_empty (route lists v))) (vehicles lists)

-- a visit is active if it is in some list
abbrev pub is_active : List (List ℕ) → ℕ → Bool
is_active lists node = list_any (λ list. holds list node) lists

-- the visits that are in no list, ascending
abbrev pub inactive : Model → List (List ℕ) → List ℕ
inactive model lists = filter (λ node. not (is_active lists node)) (visits model)

-- the nodes at the stops of vehicle v with this list: its start, the visits, its end
abbrev pub stops : Model → ℕ → List ℕ → List ℕ
stops model v list = (vehicle_at model v).start ∷ (list ++ (vehicle_at model v).end ∷ [])

-- an arc that a vehicle takes from one node to another
pub record UsedArc : Type 0 where
  pub vehicle : ℕ
  pub origin : ℕ
  pub target : ℕ

-- the arcs of vehicle v from a node through others in turn
abbrev pub arcs_from : ℕ → ℕ → List ℕ → List UsedArc
arcs_from v node [] = []
arcs_from v node (next ∷ rest) = record { vehicle = v; origin = node; target = next } ∷ arcs_from v next rest

-- the arcs between the stops of vehicle v with this list
abbrev pub arcs_between : Model → ℕ → List ℕ → List UsedArc
arcs_between model v list = arcs_from v (vehicle_at model v).start (list ++ (vehicle_at model v).end ∷ [])

-- the arcs that vehicle v takes with this list, none if the list is empty
abbrev pub arcs_of : Model → ℕ → List ℕ → List UsedArc
arcs_of model v [] = []
arcs_of model v (x ∷ xs) = arcs_between model v (x ∷ xs)

-- the arcs of the used vehicles, by vehicle and then from the start on
abbrev pub used_arcs : Model → List (List ℕ) → List UsedArc
used_arcs model lists = each (vehicles lists) λ v. arcs_of model v (route lists v)

-- the cost of an arc for its vehicle
abbrev pub cost_of_arc : Model → UsedArc → ℤ
cost_of_arc model arc = arc_cost model arc.vehicle arc.origin arc.target

-- the arc costs of vehicle v with this list, added up
abbrev pub route_cost : Model → ℕ → List ℕ → ℤ
route_cost model v list = total_by (cost_of_arc model) (arcs_of model v list)
