-- Well-formed models: each that reading gives is one. Each range, length and distinctness is said once. Each node that
-- must be a visit is one, and no rule on the whole model is broken.
use Rattle.std.specs.Prelude.{◌≡◌, ℕ, ◌*◌, ◌<◌, ◌≤◌, ◌⊎◌, Bool, true, false, not, ◌&&◌, IsTrue, List, [], ◌∷◌, map}
use Rattle.std.specs.Prelude.{length, ℤ, pos, ◌≤ℤ◌, Option, Some, None}
use Rattle.std.specs.List.{All, list_any}
use Rattle.vr_model.specs.tables.Numbers.{horizon, each}
use Rattle.vr_model.specs.tables.Limits.{greatest_cost, least_value, greatest_value, greatest_coefficient}
use Rattle.vr_model.specs.tables.Limits.{greatest_lambda, most_nodes, most_vehicles, most_matrices, most_dimensions}
use Rattle.vr_model.specs.tables.Limits.{most_evaluators, most_breaks, most_forbidden, most_groups, most_pairs}
use Rattle.vr_model.specs.tables.Limits.{most_name_bytes, most_tries, most_neighbourhoods, most_cut, most_tenure}
use Rattle.vr_model.specs.tables.Tables.{dimension_at, evaluator_of, is_visit}
use Rattle.vr_model.specs.routes.Routes.{is_same, is_distinct}
use Rattle.vr_model.specs.tables.ModelRules.{has_negative_cost, has_large_entry, goes_back, cannot_save}
use Rattle.vr_model.specs.declared.records.Model.{Model}
use Rattle.vr_model.specs.declared.records.Matrix.{Matrix}
use Rattle.vr_model.specs.declared.records.Vehicle.{Vehicle}
use Rattle.vr_model.specs.declared.records.Dimension.{Dimension}
use Rattle.vr_model.specs.declared.records.Evaluator.{Evaluator}
use Rattle.vr_model.specs.declared.records.StopRow.{StopRow}
use Rattle.vr_model.specs.declared.records.Interval.{Interval}
use Rattle.vr_model.specs.declared.records.Soft.{Soft}
use Rattle.vr_model.specs.declared.records.VehicleBreaks.{VehicleBreaks}
use Rattle.vr_model.specs.declared.records.BreakRow.{BreakRow}
use Rattle.vr_model.specs.declared.records.Group.{Group}
use Rattle.vr_model.specs.declared.records.Pair.{Pair}
use Rattle.vr_model.specs.declared.records.Allowed.{Allowed}
use Rattle.vr_model.specs.declared.records.SearchRow.{SearchRow}
use Rattle.vr_model.specs.declared.neighbours.Neighbourhood.{Neighbourhood}
use Rattle.vr_model.specs.declared.neighbours.Neighbourhood.TheVariants as all

-- how many values a list has
pub record HasLength {A : Type 0} (lo hi : ℕ) (xs : List A) : Type 0 where
  pub at_least : lo ≤ length xs
  pub at_most : length xs ≤ hi

-- a whole number in lo..=hi
pub record IsIn (lo hi : ℤ) (x : ℤ) : Type 0 where
  pub at_least : lo ≤ℤ x
  pub at_most : x ≤ℤ hi

-- what is said of a value that may be absent holds, if it is there
abbrev pub WherePresent : {A : Type 0} → (A → Type 0) → Option A → Type 0
WherePresent P None = Unit {0}
WherePresent P (Some x) = P x

-- a matrix of n rows of n entries each
pub record IsMatrix (n : ℕ) (matrix : Matrix) : Type 0 where
  pub square : length matrix.entries ≡ n * n
  pub entries_in_range : All (IsIn least_value greatest_cost) matrix.entries

-- a vehicle of a model
pub record IsVehicle (model : Model) (vehicle : Vehicle) : Type 0 where
  pub start_in_range : vehicle.start < model.nodes
  pub end_in_range : vehicle.end < model.nodes
  pub costs_in_range : vehicle.costs < length model.matrices
  pub fixed_in_range : IsIn (pos 0) greatest_cost vehicle.fixed

-- an evaluator of a model: values for all nodes or none
pub record IsEvaluator (model : Model) (evaluator : Evaluator) : Type 0 where
  pub matrix_in_range : WherePresent (λ m. m < length model.matrices) evaluator.matrix
  pub values_of_all : (length evaluator.values ≡ 0) ⊎ (length evaluator.values ≡ model.nodes)
  pub values_in_range : All (IsIn least_value greatest_value) evaluator.values

-- the evaluator of a vehicle in a dimension
pub record IsEvaluatorFor (model : Model) (d v : ℕ) (evaluator : Evaluator) : Type 0 where
  pub dimension : d < length model.dimensions
  pub vehicle : v < length model.vehicles
  pub is : evaluator ≡ evaluator_of (dimension_at model d) v

-- an interval of cumuls: a window, or a forbidden one
pub record IsInterval (interval : Interval) : Type 0 where
  pub lo_in_range : pos 0 ≤ℤ interval.lo
  pub in_order : interval.lo ≤ℤ interval.hi
  pub hi_in_range : interval.hi ≤ℤ horizon

-- a soft upper bound
pub record IsSoft (soft : Soft) : Type 0 where
  pub bound_in_range : IsIn (pos 0) horizon soft.bound
  pub coefficient_in_range : IsIn (pos 0) greatest_coefficient soft.coefficient

-- a row of a stop, but for its key
pub record IsStopRow (row : StopRow) : Type 0 where
  pub window_is_interval : WherePresent IsInterval row.window
  pub number_of_forbidden : length row.forbidden ≤ most_forbidden
  pub each_forbidden_is_interval : All IsInterval row.forbidden
  pub soft_in_range : WherePresent IsSoft row.soft

-- a break
pub record IsBreak (row : BreakRow) : Type 0 where
  pub from_in_range : pos 0 ≤ℤ row.from
  pub in_order : row.from ≤ℤ row.to
  pub to_in_range : row.to ≤ℤ horizon
  pub duration_in_range : IsIn (pos 1) horizon row.duration

-- the breaks of a vehicle
pub record AreBreaks (entry : VehicleBreaks) : Type 0 where
  pub number_of_rows : HasLength 1 most_breaks entry.rows
  pub each_row : All IsBreak entry.rows

-- rows of visits: each key a visit, no key twice
pub record AreVisitRows (model : Model) (rows : List StopRow) : Type 0 where
  pub number_of_rows : length rows ≤ most_nodes
  pub each_key_is_visit : All (λ row. IsTrue (is_visit model row.key)) rows
  pub no_key_twice : IsTrue (is_distinct (map (λ row. row.key) rows))
  pub each_row : All IsStopRow rows

-- rows of starts or of ends: each key a vehicle, no key twice
pub record AreVehicleRows (model : Model) (rows : List StopRow) : Type 0 where
  pub number_of_rows : length rows ≤ most_vehicles
  pub each_key_is_vehicle : All (λ row. row.key < length model.vehicles) rows
  pub no_key_twice : IsTrue (is_distinct (map (λ row. row.key) rows))
  pub each_row : All IsStopRow rows

-- A dimension of a model. The lists by vehicle and by node are full, even if the model file leaves them out.
pub record IsDimension (model : Model) (dimension : Dimension) : Type 0 where
  pub length_of_name : HasLength 1 most_name_bytes dimension.name
  pub number_of_evaluators : HasLength 1 most_evaluators dimension.evaluators
  pub each_evaluator : All (IsEvaluator model) dimension.evaluators
  pub evaluator_of_each_vehicle : length dimension.vehicle_evaluators ≡ length model.vehicles
  pub vehicle_evaluators_in_range : All (λ k. k < length dimension.evaluators) dimension.vehicle_evaluators
  pub slack_max_in_range : IsIn (pos 0) horizon dimension.slack_max
  pub capacity_of_each_vehicle : length dimension.capacities ≡ length model.vehicles
  pub capacities_in_range : All (IsIn (pos 0) horizon) dimension.capacities
  pub visit_time_of_each_node : length dimension.visit ≡ model.nodes
  pub visit_times_in_range : All (IsIn (pos 0) greatest_value) dimension.visit
  pub rows_of_visits : AreVisitRows model dimension.nodes
  pub rows_of_starts : AreVehicleRows model dimension.starts
  pub rows_of_ends : AreVehicleRows model dimension.ends
  pub number_of_breaks : length dimension.breaks ≤ most_vehicles
  pub each_break_of_vehicle : All (λ entry. entry.vehicle < length model.vehicles) dimension.breaks
  pub breaks_of_no_vehicle_twice : IsTrue (is_distinct (map (λ entry. entry.vehicle) dimension.breaks))
  pub each_breaks : All AreBreaks dimension.breaks
  pub span_cost_of_each_vehicle : length dimension.span_costs ≡ length model.vehicles
  pub span_costs_in_range : All (IsIn (pos 0) greatest_coefficient) dimension.span_costs
  pub global_span_cost_in_range : IsIn (pos 0) greatest_coefficient dimension.global_span_cost

-- a group of visits
pub record IsGroup (model : Model) (group : Group) : Type 0 where
  pub number_of_nodes : HasLength 1 most_nodes group.nodes
  pub each_node_is_visit : All (λ node. IsTrue (is_visit model node)) group.nodes
  pub penalty_in_range : WherePresent (IsIn (pos 0) greatest_cost) group.penalty
  pub max_in_range : (1 ≤ group.max) × (group.max ≤ length group.nodes)

-- a pair of visits
pub record IsPair (model : Model) (pair : Pair) : Type 0 where
  pub pickup_is_visit : IsTrue (is_visit model pair.pickup)
  pub delivery_is_visit : IsTrue (is_visit model pair.delivery)

-- a row of allowed vehicles
pub record IsAllowed (model : Model) (row : Allowed) : Type 0 where
  pub node_is_visit : IsTrue (is_visit model row.node)
  pub number_of_vehicles : HasLength 1 (length model.vehicles) row.vehicles
  pub vehicles_in_range : All (λ v. v < length model.vehicles) row.vehicles
  pub no_vehicle_twice : IsTrue (is_distinct row.vehicles)

-- the place of a neighbourhood in the order of all of them
abbrev pub neighbourhood_number : Neighbourhood → ℕ
neighbourhood_number all.TwoOpt = 0
neighbourhood_number all.OrOpt = 1
neighbourhood_number all.Relocate = 2
neighbourhood_number all.Exchange = 3
neighbourhood_number all.Cross = 4
neighbourhood_number all.RelocatePair = 5
neighbourhood_number all.PairActive = 6
neighbourhood_number all.PairInactive = 7
neighbourhood_number all.MakeActive = 8
neighbourhood_number all.MakeInactive = 9
neighbourhood_number all.SwapActive = 10

-- what a search may be told
pub record IsSearch (search : SearchRow) : Type 0 where
  pub tries_in_range : search.tries ≤ most_tries
  pub solutions_in_range : (1 ≤ search.solutions) × (search.solutions ≤ most_tries)
  pub p_in_range : IsIn (pos 1) greatest_lambda search.p
  pub q_in_range : IsIn (pos 1) greatest_lambda search.q
  pub number_of_neighbourhoods : length search.neighbourhoods ≤ most_neighbourhoods
  pub no_neighbourhood_twice : IsTrue (is_distinct (map neighbourhood_number search.neighbourhoods))
  pub cut_in_range : (1 ≤ search.cut) × (search.cut ≤ most_cut)
  pub tenure_in_range : (1 ≤ search.tenure) × (search.tenure ≤ most_tenure)

-- the nodes of a pair
abbrev pub pair_nodes : Pair → List ℕ
pair_nodes pair = pair.pickup ∷ pair.delivery ∷ []

-- no two names are the same
abbrev pub are_distinct_names : List (List ℕ) → Bool
are_distinct_names [] = true
are_distinct_names (name ∷ names) = not (list_any (is_same name) names) && are_distinct_names names

-- a well-formed model
pub record IsWellFormed (model : Model) : Type 0 where
  pub number_of_nodes : (1 ≤ model.nodes) × (model.nodes ≤ most_nodes)
  pub number_of_matrices : HasLength 1 most_matrices model.matrices
  pub each_matrix : All (IsMatrix model.nodes) model.matrices
  pub number_of_vehicles : HasLength 1 most_vehicles model.vehicles
  pub each_vehicle : All (IsVehicle model) model.vehicles
  pub number_of_dimensions : length model.dimensions ≤ most_dimensions
  pub each_dimension : All (IsDimension model) model.dimensions
  pub no_name_twice : IsTrue (are_distinct_names (map (λ dimension. dimension.name) model.dimensions))
  pub number_of_groups : length model.groups ≤ most_groups
  pub each_group : All (IsGroup model) model.groups
  pub no_node_in_groups_twice : IsTrue (is_distinct (each model.groups (λ group. group.nodes)))
  pub number_of_pairs : length model.pairs ≤ most_pairs
  pub each_pair : All (IsPair model) model.pairs
  pub no_node_in_pairs_twice : IsTrue (is_distinct (each model.pairs pair_nodes))
  pub number_of_allowed : length model.allowed ≤ most_nodes
  pub each_allowed : All (IsAllowed model) model.allowed
  pub no_node_allowed_twice : IsTrue (is_distinct (map (λ row. row.node) model.allowed))
  pub search_in_range : IsSearch model.search
  pub costs_not_negative : (v : ℕ) → v < length model.vehicles → has_negative_cost model v ≡ false
  pub entries_not_large : (d k : ℕ) → d < length model.dimensions → k < length (dimension_at model d).evaluators
      → has_large_entry model d k ≡ false
  pub transits_forward : (d : ℕ) → d < length model.dimensions → goes_back model d ≡ false
  pub can_save : cannot_save model ≡ false
