-- The rows of a model, by their numbers. A number that no row has gives an empty row, so that each definition answers
-- for each number. Of a well-formed model no definition asks for such a number.
use Rattle.std.specs.Prelude.{ℕ, ◌+◌, ◌*◌, Bool, false, ◌&&◌, ◌||◌, not, ◌==◌, nat_lt, List, [], ℤ, pos, ◌+ℤ◌, Option}
use Rattle.std.specs.Prelude.{Some, None, find, filter, slice_index_or, option_map, unwrap_or}
use Rattle.std.specs.List.{list_any}
use Rattle.vr_model.specs.tables.Numbers.{number_at, below}
use Rattle.vr_model.specs.declared.records.ScheduleRule.TheVariants.{Earliest}
use Rattle.vr_model.specs.declared.records.Model.{Model}
use Rattle.vr_model.specs.declared.records.Matrix.{Matrix}
use Rattle.vr_model.specs.declared.records.Vehicle.{Vehicle}
use Rattle.vr_model.specs.declared.records.Dimension.{Dimension}
use Rattle.vr_model.specs.declared.records.Evaluator.{Evaluator}
use Rattle.vr_model.specs.declared.records.StopRow.{StopRow}
use Rattle.vr_model.specs.declared.records.BreakRow.{BreakRow}
use Rattle.vr_model.specs.declared.records.Pair.{Pair}
use Rattle.vr_model.specs.declared.records.Policy.TheVariants.{Any}

abbrev pub no_matrix : Matrix
no_matrix = record { entries = [] }

-- the matrix of a number
abbrev pub matrix_at : Model → ℕ → Matrix
matrix_at model m = slice_index_or model.matrices m no_matrix

-- an entry of a matrix, by row and column
abbrev pub entry : Model → ℕ → ℕ → ℕ → ℤ
entry model m i j = number_at (matrix_at model m).entries (i * model.nodes + j)

abbrev pub no_vehicle : Vehicle
no_vehicle = record { start = 0; «end» = 0; costs = 0; fixed = pos 0; policy = Any; schedule = Earliest }

-- the vehicle of a number
abbrev pub vehicle_at : Model → ℕ → Vehicle
vehicle_at model v = slice_index_or model.vehicles v no_vehicle

abbrev pub no_dimension : Dimension
no_dimension = record {
  name = [];
  evaluators = [];
  vehicle_evaluators = [];
  slack_max = pos 0;
  capacities = [];
  fix_start = false;
  visit = [];
  nodes = [];
  starts = [];
  ends = [];
  breaks = [];
  span_costs = [];
  global_span_cost = pos 0;
}

-- the dimension of a number
abbrev pub dimension_at : Model → ℕ → Dimension
dimension_at model d = slice_index_or model.dimensions d no_dimension

-- the pair of a number
abbrev pub pair_at : Model → ℕ → Pair
pair_at model p = slice_index_or model.pairs p (record { pickup = 0; delivery = 0 })

-- the cost of the arc from node i to node j for vehicle v
abbrev pub arc_cost : Model → ℕ → ℕ → ℕ → ℤ
arc_cost model v i j = entry model (vehicle_at model v).costs i j

-- what the matrix of an evaluator gives, 0 if it has none
abbrev pub matrix_part : Model → Option ℕ → ℕ → ℕ → ℤ
matrix_part model None i j = pos 0
matrix_part model (Some m) i j = entry model m i j

-- what an evaluator gives from node i to node j: the entry of its matrix and the value of node i
abbrev pub evaluated : Model → Evaluator → ℕ → ℕ → ℤ
evaluated model evaluator i j = matrix_part model evaluator.matrix i j +ℤ number_at evaluator.values i

abbrev pub no_evaluator : Evaluator
no_evaluator = record { matrix = None; values = [] }

-- the number of the evaluator of vehicle v
abbrev pub evaluator_number : Dimension → ℕ → ℕ
evaluator_number dimension v = slice_index_or dimension.vehicle_evaluators v 0

-- the evaluator of vehicle v
abbrev pub evaluator_of : Dimension → ℕ → Evaluator
evaluator_of dimension v = slice_index_or dimension.evaluators (evaluator_number dimension v) no_evaluator

-- the transit of vehicle v from node i to node j in dimension d
abbrev pub transit : Model → ℕ → ℕ → ℕ → ℕ → ℤ
transit model d v i j = evaluated model (evaluator_of (dimension_at model d) v) i j

-- the node is the start or the end of some vehicle
abbrev pub is_terminal : Model → ℕ → Bool
is_terminal model node = list_any (λ vehicle. (vehicle.start == node) || (vehicle.end == node)) model.vehicles

-- the node is a visit
abbrev pub is_visit : Model → ℕ → Bool
is_visit model node = nat_lt node model.nodes && not (is_terminal model node)

-- the visits, ascending
abbrev pub visits : Model → List ℕ
visits model = filter (is_visit model) (below model.nodes)

-- the row of a table with this key, the first of several
abbrev pub row_of : List StopRow → ℕ → Option StopRow
row_of rows key = find (λ row. row.key == key) rows

-- the breaks of vehicle v, in order
abbrev pub breaks_of : Dimension → ℕ → List BreakRow
breaks_of dimension v =
    unwrap_or (option_map (λ entry. entry.rows) (find (λ entry. entry.vehicle == v) dimension.breaks)) []
