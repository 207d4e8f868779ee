-- The rules on a whole model, as tests that find what breaks them. Reading refuses a model that breaks one.
use Rattle.std.specs.Prelude.{ℕ, Bool, true, false, not, ◌&&◌, ◌||◌, ◌==◌, length, ℤ, pos, int_lt, Option, Some, None}
use Rattle.std.specs.Prelude.{slice_index_or}
use Rattle.std.specs.List.{list_all, list_any}
use Rattle.vr_model.specs.tables.Numbers.{below, number_at, is_same_number, are_same_by}
use Rattle.vr_model.specs.tables.Tables.{matrix_at, vehicle_at, dimension_at, transit, evaluator_number, no_evaluator}
use Rattle.vr_model.specs.tables.Tables.{row_of, breaks_of}
use Rattle.vr_model.specs.routes.Routes.{is_empty}
use Rattle.vr_model.specs.tables.Limits.{greatest_value}
use Rattle.vr_model.specs.declared.records.Model.{Model}
use Rattle.vr_model.specs.declared.records.Dimension.{Dimension}
use Rattle.vr_model.specs.declared.records.Evaluator.{Evaluator}
use Rattle.vr_model.specs.declared.records.StopRow.{StopRow}
use Rattle.vr_model.specs.declared.records.Interval.{Interval}
use Rattle.vr_model.specs.declared.records.Soft.{Soft}
use Rattle.vr_model.specs.declared.records.BreakRow.{BreakRow}
use Rattle.vr_model.specs.declared.records.Policy.{Policy}
use Rattle.vr_model.specs.declared.records.Policy.TheVariants.{Any, Lifo, Fifo}
use Rattle.vr_model.specs.declared.records.ScheduleRule.{ScheduleRule}
use Rattle.vr_model.specs.declared.records.ScheduleRule.TheVariants.{Earliest, Tight}
use Rattle.vr_model.specs.declared.records.First.{First}
use Rattle.vr_model.specs.declared.records.First.TheVariants.{PathCheapestArc, ParallelCheapestInsertion, Savings}

-- the number is below 0
abbrev pub is_negative : ℤ → Bool
is_negative x = int_lt x (pos 0)

-- ---- costs and entries

-- the cost matrix of vehicle v has a negative entry, on the diagonal or off it
abbrev pub has_negative_cost : Model → ℕ → Bool
has_negative_cost model v = list_any is_negative (matrix_at model (vehicle_at model v).costs).entries

-- the greatest entry of a matrix that a dimension uses, 2 ^ 30
abbrev pub greatest_entry : ℤ
greatest_entry = greatest_value

-- evaluator k of a dimension
abbrev pub evaluator_at : Dimension → ℕ → Evaluator
evaluator_at dimension k = slice_index_or dimension.evaluators k no_evaluator

-- there is a matrix, and it has an entry above the greatest
abbrev pub is_large : Model → Option ℕ → Bool
is_large model None = false
is_large model (Some m) = list_any (int_lt greatest_entry) (matrix_at model m).entries

-- the matrix of evaluator k of dimension d has an entry above the greatest, whether a vehicle uses the evaluator or not
abbrev pub has_large_entry : Model → ℕ → ℕ → Bool
has_large_entry model d k = is_large model (evaluator_at (dimension_at model d) k).matrix

-- ---- transits

-- the dimension has a break of some vehicle
abbrev pub has_breaks : Dimension → Bool
has_breaks dimension = list_any (λ entry. not (is_empty entry.rows)) dimension.breaks

-- the dimension has a span coefficient other than 0, of some vehicle or of all together
abbrev pub has_span_costs : Dimension → Bool
has_span_costs dimension = list_any (λ coefficient. not (is_same_number coefficient (pos 0))) dimension.span_costs
    || not (is_same_number dimension.global_span_cost (pos 0))

-- some vehicle has a negative transit in dimension d between two distinct nodes, whether or not a route can have that
-- arc
abbrev pub has_negative_transit : Model → ℕ → Bool
has_negative_transit model d =
    list_any (λ v. list_any (λ i. list_any (λ j. not (i == j)
    && is_negative (transit model d v i j)) (below model.nodes)) (below model.nodes)) (below (length model.vehicles))

-- dimension d has breaks or span costs, and a negative transit
abbrev pub goes_back : Model → ℕ → Bool
goes_back model d =
    (has_breaks (dimension_at model d) || has_span_costs (dimension_at model d)) && has_negative_transit model d

-- ---- vehicles

-- two values that may be absent: both are absent, or both are present and the test passes
abbrev pub is_same_option : {A : Type 0} → (A → A → Bool) → Option A → Option A → Bool
is_same_option same None None = true
is_same_option same None (Some y) = false
is_same_option same (Some x) None = false
is_same_option same (Some x) (Some y) = same x y

abbrev pub is_same_policy : Policy → Policy → Bool
is_same_policy Any Any = true
is_same_policy Lifo Lifo = true
is_same_policy Fifo Fifo = true
is_same_policy policy other = false

abbrev pub is_same_schedule_rule : ScheduleRule → ScheduleRule → Bool
is_same_schedule_rule Earliest Earliest = true
is_same_schedule_rule Tight Tight = true
is_same_schedule_rule rule other = false

abbrev pub is_same_interval : Interval → Interval → Bool
is_same_interval interval other = is_same_number interval.lo other.lo && is_same_number interval.hi other.hi

abbrev pub is_same_soft : Soft → Soft → Bool
is_same_soft soft other = is_same_number soft.bound other.bound && is_same_number soft.coefficient other.coefficient

-- two stop rows are the same but for their keys: forbidden intervals as lists, by order and number
abbrev pub is_same_row : StopRow → StopRow → Bool
is_same_row row other = is_same_option is_same_interval row.window other.window
    && (are_same_by is_same_interval row.forbidden other.forbidden
    && is_same_option is_same_soft row.soft other.soft)

abbrev pub is_same_break : BreakRow → BreakRow → Bool
is_same_break row other =
    is_same_number row.from other.from && (is_same_number row.to other.to && is_same_number row.duration other.duration)

-- vehicles v and w are alike in a dimension: the same capacity, evaluator number, span coefficient, start row, end row
-- and breaks
abbrev pub are_alike_in : Dimension → ℕ → ℕ → Bool
are_alike_in dimension v w = is_same_number (number_at dimension.capacities v) (number_at dimension.capacities w)
    && ((evaluator_number dimension v == evaluator_number dimension w)
    && (is_same_number (number_at dimension.span_costs v) (number_at dimension.span_costs w)
    && (is_same_option is_same_row (row_of dimension.starts v) (row_of dimension.starts w)
    && (is_same_option is_same_row (row_of dimension.ends v) (row_of dimension.ends w)
    && are_same_by is_same_break (breaks_of dimension v) (breaks_of dimension w)))))

-- vehicles v and w are alike: the same start, end, cost matrix number, fixed cost, policy and rule of schedules, and
-- alike in each dimension
abbrev pub are_alike : Model → ℕ → ℕ → Bool
are_alike model v w = let one = vehicle_at model v in let other = vehicle_at model w in
    (one.start == other.start)
    && ((one.end == other.end)
    && ((one.costs == other.costs)
    && (is_same_number one.fixed other.fixed
    && (is_same_policy one.policy other.policy
    && (is_same_schedule_rule one.schedule other.schedule
    && list_all (λ dimension. are_alike_in dimension v w) model.dimensions)))))

-- some two vehicles are not alike
abbrev pub vehicles_differ : Model → Bool
vehicles_differ model =
    let all = below (length model.vehicles) in
    list_any (λ v. list_any (λ w. not (are_alike model v w)) all) all

-- the first solution is to be built by savings
abbrev pub is_savings : First → Bool
is_savings PathCheapestArc = false
is_savings ParallelCheapestInsertion = false
is_savings Savings = true

-- savings are asked for, though vehicles differ or rows of allowed vehicles are there
abbrev pub cannot_save : Model → Bool
cannot_save model = is_savings model.search.first && (vehicles_differ model || not (is_empty model.allowed))
