-- The table of dimensions.
use Rattle.std.specs.Prelude.{ℕ, ◌^◌, ◌-◌, List, [], ◌∷◌, length, replicate, false, ℤ, pos, int_lt, if◌then◌else◌}
use Rattle.std.specs.Prelude.{codes, Ok}
use Rattle.std.specs.List.{list_any}
use Rattle.std.specs.Str.{bytes_eq}
use Rattle.vr_json.specs.declared.fault.Cause.TheVariants.{Repeated}
use Rattle.vr_json.specs.Reading.{◌>>=◌, ReaderOf, required, optional, maybe, known, array, for_each, refuse_if}
use Rattle.vr_json.specs.Kinds.{whole, below, text, flag}
use Rattle.vr_model.specs.tables.Numbers.{horizon}
use Rattle.vr_model.specs.tables.Limits.{least_value, greatest_value, greatest_coefficient}
use Rattle.vr_model.specs.declared.records.Vehicle.{Vehicle}
use Rattle.vr_model.specs.declared.records.Dimension.{Dimension}
use Rattle.vr_model.specs.declared.records.Evaluator.{Evaluator}
use Rattle.vr_model.specs.declared.records.StopRow.{StopRow}
use Rattle.vr_read.specs.declared.dimensions.Transits.{Transits}
use Rattle.vr_read.specs.declared.dimensions.DimensionBounds.{DimensionBounds}
use Rattle.vr_read.specs.declared.dimensions.DimensionRows.{DimensionRows}
use Rattle.vr_read.specs.declared.dimensions.SpanCosts.{SpanCosts}
use Rattle.vr_read.specs.Vehicles.{visit}
use Rattle.vr_read.specs.StopRows.{stop_row, vehicle_breaks}

-- an evaluator, in a model of n nodes and this many matrices
unfoldable pub evaluator : ℕ → ℕ → ReaderOf Evaluator
evaluator n matrices path d = do
  matrix ← maybe (codes "matrix") (below matrices) path d
  values ← optional (codes "values") [] (array n n (λ so_far. whole least_value greatest_value)) path d
  others ← known (codes "matrix" ∷ codes "values" ∷ []) path d
  Ok (record { matrix = matrix; values = values })

-- a whole number in 0..=2^63 - 1; above the horizon it is read as the horizon
unfoldable pub capped : ReaderOf ℤ
capped path d = do
  z ← whole (pos 0) (pos (2 ^ 63 - 1)) path d
  Ok (if int_lt horizon z then horizon else z)

-- the name of a dimension, which no earlier one has
unfoldable pub name : List Dimension → ReaderOf (List ℕ)
name earlier path d = do
  bytes ← text 1 64 path d
  fresh ← refuse_if (list_any (λ dimension. bytes_eq dimension.name bytes) earlier) Repeated path
  Ok bytes

-- a coefficient of a cost
abbrev pub coefficient : ReaderOf ℤ
coefficient = whole (pos 0) greatest_coefficient

-- numbers, one for each vehicle: each is that of one of this many evaluators
abbrev pub numbers_below : ℕ → ℕ → ReaderOf (List ℕ)
numbers_below fleet count = array fleet fleet (λ so_far. below count)

-- visit times, one for each of n nodes
abbrev pub visit_times : ℕ → ReaderOf (List ℤ)
visit_times n = array n n (λ so_far. whole (pos 0) greatest_value)

-- the evaluators of a dimension, and the number of each vehicle's one, in a model of n nodes and this many matrices and
-- vehicles
unfoldable pub transits : ℕ → ℕ → ℕ → ReaderOf Transits
transits n matrices fleet path d = do
  evaluators ← required (codes "evaluators") (array 1 8 (λ so_far. evaluator n matrices)) path d
  numbers ← optional (codes "vehicle_evaluators") (replicate fleet 0) (numbers_below fleet (length evaluators)) path d
  Ok (record { evaluators = evaluators; vehicle_evaluators = numbers })

-- the bounds of slacks and cumuls, and the visit times
unfoldable pub bounds : ℕ → ℕ → ReaderOf DimensionBounds
bounds n fleet path d = do
  slack_max ← required (codes "slack_max") capped path d
  capacities ← required (codes "capacity") (for_each fleet (λ so_far. capped)) path d
  fix_start ← optional (codes "fix_start") false flag path d
  times ← optional (codes "visit") (replicate n (pos 0)) (visit_times n) path d
  Ok (record { slack_max = slack_max; capacities = capacities; fix_start = fix_start; visit = times })

-- the rows of the starts or of the ends of this many vehicles, in a field of this name
abbrev pub vehicle_rows : List ℕ → ℕ → ReaderOf (List StopRow)
vehicle_rows field fleet = optional field [] (array 0 100 (stop_row (codes "vehicle") (below fleet)))

-- the rows of stops, and the breaks
unfoldable pub rows : ℕ → ℕ → List Vehicle → ReaderOf DimensionRows
rows n fleet vehicles path d = do
  nodes ← optional (codes "nodes") [] (array 0 1000 (stop_row (codes "node") (visit n vehicles))) path d
  starts ← vehicle_rows (codes "starts") fleet path d
  ends ← vehicle_rows (codes "ends") fleet path d
  breaks ← optional (codes "breaks") [] (array 0 100 (vehicle_breaks fleet)) path d
  Ok (record { nodes = nodes; starts = starts; ends = ends; breaks = breaks })

-- the coefficients of spans: of each vehicle, and of all together
unfoldable pub span_costs : ℕ → ReaderOf SpanCosts
span_costs fleet path d = do
  by_vehicle ← optional (codes "span_cost") (replicate fleet (pos 0)) (for_each fleet (λ so_far. coefficient)) path d
  global ← optional (codes "global_span_cost") (pos 0) coefficient path d
  Ok (record { by_vehicle = by_vehicle; global = global })

-- the fields of a dimension
abbrev pub dimension_fields : List (List ℕ)
dimension_fields =
    codes "name" ∷ codes "evaluators" ∷ codes "vehicle_evaluators" ∷ codes "slack_max" ∷ codes "capacity"
    ∷ codes "fix_start" ∷ codes "visit" ∷ codes "nodes" ∷ codes "starts" ∷ codes "ends" ∷ codes "breaks"
    ∷ codes "span_cost" ∷ codes "global_span_cost" ∷ []

-- a dimension, in a model of n nodes, this many matrices, and a fleet of this many vehicles, which are these
unfoldable pub dimension : ℕ → ℕ → ℕ → List Vehicle → List Dimension → ReaderOf Dimension
dimension n matrices fleet vehicles earlier path d = do
  bytes ← required (codes "name") (name earlier) path d
  by_vehicle ← transits n matrices fleet path d
  within ← bounds n fleet path d
  stops ← rows n fleet vehicles path d
  spans ← span_costs fleet path d
  others ← known dimension_fields path d
  Ok (record {
    name = bytes;
    evaluators = by_vehicle.evaluators;
    vehicle_evaluators = by_vehicle.vehicle_evaluators;
    slack_max = within.slack_max;
    capacities = within.capacities;
    fix_start = within.fix_start;
    visit = within.visit;
    nodes = stops.nodes;
    starts = stops.starts;
    ends = stops.ends;
    breaks = stops.breaks;
    span_costs = spans.by_vehicle;
    global_span_cost = spans.global;
  })
