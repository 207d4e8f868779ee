-- Stop rows, breaks and dimensions as they are read.
use Rattle.std.proofs.Common.{◌≡◌, ℕ, ◌^◌, ◌-◌, ◌<◌, ◌≤◌, ◌⊎◌, inl, inr, false, ◌==◌, List, [], length, replicate, map, refl, arith}
use Rattle.std.specs.Prelude.{ℤ, pos, ◌≤ℤ◌, int_lt, codes, IsTrue}
use Rattle.std.specs.List.{All, list_any}
use Rattle.std.specs.Str.{bytes_eq}
use Rattle.std.proofs.lemmas.Int.{ints, clamps}
use Rattle.std.proofs.lemmas.List.Elements.{All-nil}
use Rattle.vr_json.specs.Reading.{ReaderOf, optional, array}
use Rattle.vr_model.specs.tables.Numbers.{horizon}
use Rattle.vr_model.specs.routes.Routes.{is_distinct}
use Rattle.vr_model.specs.tables.Tables.{is_visit}
use Rattle.vr_model.specs.tables.Limits.{least_value, greatest_value, greatest_coefficient}
use Rattle.vr_model.specs.tables.WellFormed.{HasLength, IsIn, WherePresent, IsInterval, IsSoft, IsStopRow, IsBreak, AreBreaks, AreVisitRows, AreVehicleRows}
use Rattle.vr_model.specs.tables.WellFormed.{IsEvaluator, IsDimension}
use Rattle.vr_model.specs.declared.records.Model.{Model}
use Rattle.vr_model.specs.declared.records.Dimension.{Dimension}
use Rattle.vr_model.specs.declared.records.StopRow.{StopRow}
use Rattle.vr_read.specs.StopRows.{interval, soft, limits, stop_row, break_row, vehicle_breaks}
use Rattle.vr_read.specs.declared.dimensions.Transits.{Transits}
use Rattle.vr_read.specs.declared.dimensions.DimensionBounds.{DimensionBounds}
use Rattle.vr_read.specs.declared.dimensions.DimensionRows.{DimensionRows}
use Rattle.vr_read.specs.declared.dimensions.SpanCosts.{SpanCosts}
use Rattle.vr_read.specs.declared.stop_rows.StopLimits.{StopLimits}
use Rattle.vr_read.specs.Dimensions.{evaluator, capped, name, transits, bounds, rows as stop_tables, span_costs, dimension}
use Rattle.vr_json.proofs.Readings.{EachEnsures, EachFresh, IsFull, gives, after, any_value, weaker, whole_ensures, below_ensures, text_ensures}
use Rattle.vr_json.proofs.Readings.{required_ensures, optional_ensures, maybe_ensures, refuse_if_ensures, array_ensures, full_array_ensures, for_each_ensures}
use Rattle.vr_json.proofs.Readings.{two_entries_ensure, replicated}
use Rattle.vr_read.proofs.Distinct.{numbered_array_ensures}
use Rattle.vr_read.proofs.WellFormedVehicles.{visit_ensures}

-- ---- stop rows and breaks

in_order : (x y : ℤ) → int_lt y x ≡ false → x ≤ℤ y
in_order x y h = grind (arith, ints)

interval_ensures : EachEnsures IsInterval interval
unfolding interval
interval_ensures path d =
    after (two_entries_ensure (whole_ensures (pos 0) horizon) path d) λ ends in_range.
    after (refuse_if_ensures (int_lt ends.1 ends.0) _ _) λ ordered kept.
    gives (record { lo_in_range = in_range.0.at_least; in_order = in_order _ _ kept; hi_in_range = in_range.1.at_most })

soft_ensures : EachEnsures IsSoft soft
unfolding soft
soft_ensures path d =
    after (required_ensures (codes "bound") (whole_ensures (pos 0) horizon) path d) λ bound bound_ok.
    after (required_ensures (codes "coefficient") (whole_ensures (pos 0) greatest_coefficient) path d) λ coefficient coefficient_ok.
    after any_value λ others _.
    gives (record { bound_in_range = bound_ok; coefficient_in_range = coefficient_ok })

-- what a row says of a stop
record AreLimits (read : StopLimits) : Type 0 where
  window_is_interval : WherePresent IsInterval read.window
  forbidden_are_intervals : HasLength 0 16 read.forbidden × All IsInterval read.forbidden
  soft_in_range : WherePresent IsSoft read.soft

limits_ensure : EachEnsures AreLimits limits
unfolding limits
limits_ensure path d =
    after (maybe_ensures (codes "window") interval_ensures path d) λ window window_ok.
    after (optional_ensures (codes "forbidden") [] (record { at_least = omega arith; at_most = omega arith }, All-nil IsInterval)
    (array_ensures 0 16 (λ so_far. interval_ensures)) path d) λ forbidden forbidden_ok.
    after (maybe_ensures (codes "soft") soft_ensures path d) λ soft_bound soft_ok.
    gives (record { window_is_interval = window_ok; forbidden_are_intervals = forbidden_ok; soft_in_range = soft_ok })

-- a row whose key P holds of
stop_row_ensures : {P : ℕ → Type 0} (name : List ℕ) {read_key : ReaderOf ℕ} → EachEnsures P read_key
    → EachFresh (λ row. P row.key × IsStopRow row) (λ other row. other.key == row.key) (stop_row name read_key)
unfolding stop_row
stop_row_ensures name keys earlier path d =
    after (required_ensures name keys path d) λ key key_ok.
    after (refuse_if_ensures (list_any (λ row. row.key == key) earlier) _ _) λ fresh apart.
    after (limits_ensure path d) λ within within_ok.
    after any_value λ others _.
    gives (
      (
        key_ok,
        record {
          window_is_interval = within_ok.window_is_interval;
          number_of_forbidden = within_ok.forbidden_are_intervals.0.at_most;
          each_forbidden_is_interval = within_ok.forbidden_are_intervals.1;
          soft_in_range = within_ok.soft_in_range;
        },
      ),
      apart,
    )

-- rows with distinct keys: P holds of each key, and Q of each row
record AreRows {A : Type 0} (key : A → ℕ) (hi : ℕ) (P : ℕ → Type 0) (Q : A → Type 0) (rows : List A) : Type 0 where
  number_of_rows : length rows ≤ hi
  each_key : All (λ row. P (key row)) rows
  no_key_twice : IsTrue (is_distinct (map key rows))
  each_row : All Q rows

-- a table of such rows, which may be absent
rows_ensure : {A : Type 0} (key : A → ℕ) (P : ℕ → Type 0) (Q : A → Type 0) (table : List ℕ) (hi : ℕ) (read : List A → ReaderOf A)
    → EachFresh (λ row. P (key row) × Q row) (λ other row. key other == key row) read
    → EachEnsures (AreRows key hi P Q) (optional table [] (array 0 hi read))
rows_ensure key P Q table hi read h = optional_ensures table []
    (record { number_of_rows = omega arith; each_key = All-nil (λ row. P (key row)); no_key_twice = refl; each_row = All-nil Q })
    λ path d. weaker (λ rows k. record {
      number_of_rows = k.0.at_most;
      each_key = λ i other low. (k.1.0 i other low).0;
      no_key_twice = k.1.1;
      each_row = λ i other low. (k.1.0 i other low).1;
    }) (numbered_array_ensures key 0 hi h path d)

-- stop rows with distinct keys
abbrev AreStopRows : ℕ → (ℕ → Type 0) → List StopRow → Type 0
AreStopRows hi P = AreRows (λ row. row.key) hi P IsStopRow

stop_rows_ensure : (P : ℕ → Type 0) (table name : List ℕ) (hi : ℕ) (read_key : ReaderOf ℕ) → EachEnsures P read_key
    → EachEnsures (AreStopRows hi P) (optional table [] (array 0 hi (stop_row name read_key)))
stop_rows_ensure P table name hi read_key keys = rows_ensure (λ row. row.key) P IsStopRow table hi (stop_row name read_key) (stop_row_ensures name keys)

break_row_ensures : EachEnsures IsBreak break_row
unfolding break_row
break_row_ensures path d =
    after (required_ensures (codes "from") (whole_ensures (pos 0) horizon) path d) λ earliest earliest_ok.
    after (required_ensures (codes "to") (whole_ensures (pos 0) horizon) path d) λ latest latest_ok.
    after (required_ensures (codes "duration") (whole_ensures (pos 1) horizon) path d) λ duration duration_ok.
    after any_value λ others _.
    after (refuse_if_ensures (int_lt latest earliest) _ _) λ ordered kept.
    gives (record { from_in_range = earliest_ok.at_least; in_order = in_order _ _ kept; to_in_range = latest_ok.at_most; duration_in_range = duration_ok })

vehicle_breaks_ensures : (vehicles : ℕ)
    → EachFresh (λ entry. (entry.vehicle < vehicles) × AreBreaks entry) (λ other entry. other.vehicle == entry.vehicle) (vehicle_breaks vehicles)
unfolding vehicle_breaks
vehicle_breaks_ensures vehicles earlier path d =
    after (required_ensures (codes "vehicle") (below_ensures vehicles) path d) λ vehicle vehicle_ok.
    after (refuse_if_ensures (list_any (λ entry. entry.vehicle == vehicle) earlier) _ _) λ fresh apart.
    after (required_ensures (codes "breaks") (array_ensures 1 8 (λ so_far. break_row_ensures)) path d) λ rows rows_ok.
    after any_value λ others _.
    gives ((vehicle_ok, record { number_of_rows = rows_ok.0; each_row = rows_ok.1 }), apart)

-- ---- dimensions

evaluator_ensures : (model : Model) → EachEnsures (IsEvaluator model) (evaluator model.nodes (length model.matrices))
unfolding evaluator
evaluator_ensures model path d =
    after (maybe_ensures (codes "matrix") (below_ensures (length model.matrices)) path d) λ matrix matrix_ok.
    after (optional_ensures {P = λ values. ((length values ≡ 0) ⊎ (length values ≡ model.nodes)) × All (IsIn least_value greatest_value) values}
    (codes "values") [] (inl refl, All-nil (IsIn least_value greatest_value))
    (λ p e. weaker (λ values h. (inr h.one_for_each, h.each_entry))
    (full_array_ensures model.nodes (λ so_far. whole_ensures least_value greatest_value) p e)) path d) λ values values_ok.
    after any_value λ others _.
    gives (record { matrix_in_range = matrix_ok; values_of_all = values_ok.0; values_in_range = values_ok.1 })

capped_ensures : EachEnsures (IsIn (pos 0) horizon) capped
unfolding capped
capped_ensures path d = after (whole_ensures (pos 0) (pos (2 ^ 63 - 1)) path d)
    λ z z_ok. gives (record { at_least = omega (arith, ints, clamps, z_ok.at_least); at_most = omega (arith, ints, clamps) })

name_ensures : (earlier : List Dimension)
    → EachEnsures (λ bytes. HasLength 1 64 bytes × (list_any (λ dimension. bytes_eq dimension.name bytes) earlier ≡ false)) (name earlier)
unfolding name
name_ensures earlier path d =
    after (text_ensures 1 64 path d) λ bytes bytes_ok.
    after (refuse_if_ensures (list_any (λ dimension. bytes_eq dimension.name bytes) earlier) _ _) λ fresh apart.
    gives (bytes_ok, apart)

nothing_in_range : (hi : ℕ) → IsIn (pos 0) (pos hi) (pos 0)
nothing_in_range hi = record { at_least = omega (arith, ints); at_most = omega (arith, ints) }

module _ (model : Model) where
  visit_rows : (rows : List StopRow) → AreStopRows 1000 (λ node. IsTrue (is_visit model node)) rows → AreVisitRows model rows
  visit_rows rows h = record { number_of_rows = h.number_of_rows; each_key_is_visit = h.each_key; no_key_twice = h.no_key_twice; each_row = h.each_row }

  vehicle_rows : (rows : List StopRow) → AreStopRows 100 (λ v. v < length model.vehicles) rows → AreVehicleRows model rows
  vehicle_rows rows h = record { number_of_rows = h.number_of_rows; each_key_is_vehicle = h.each_key; no_key_twice = h.no_key_twice; each_row = h.each_row }

  -- the evaluators that are read, and the number of each vehicle's one
  record AreTransits (read : Transits) : Type 0 where
    number_of_evaluators : HasLength 1 8 read.evaluators
    each_evaluator : All (IsEvaluator model) read.evaluators
    numbers : IsFull (length model.vehicles) (λ k. k < length read.evaluators) read.vehicle_evaluators

  transits_ensure : EachEnsures AreTransits (transits model.nodes (length model.matrices) (length model.vehicles))
  unfolding transits
  transits_ensure path d =
      let vehicles : ℕ = length model.vehicles in
      after (required_ensures (codes "evaluators") (array_ensures 1 8 (λ so_far. evaluator_ensures model)) path d) λ evaluators evaluators_ok.
      after (optional_ensures (codes "vehicle_evaluators") (replicate vehicles 0)
      (replicated vehicles (λ k. k < length evaluators) 0 (omega (arith, evaluators_ok.0.at_least)))
      (full_array_ensures vehicles (λ so_far. below_ensures (length evaluators))) path d) λ vehicle_evaluators numbers_ok.
      gives (record { number_of_evaluators = evaluators_ok.0; each_evaluator = evaluators_ok.1; numbers = numbers_ok })

  -- the bounds and visit times that are read
  record AreBounds (read : DimensionBounds) : Type 0 where
    slack_max_in_range : IsIn (pos 0) horizon read.slack_max
    capacities : IsFull (length model.vehicles) (IsIn (pos 0) horizon) read.capacities
    visit_times : IsFull model.nodes (IsIn (pos 0) greatest_value) read.visit

  bounds_ensure : EachEnsures AreBounds (bounds model.nodes (length model.vehicles))
  unfolding bounds
  bounds_ensure path d =
      after (required_ensures (codes "slack_max") capped_ensures path d) λ slack_max slack_ok.
      after (required_ensures (codes "capacity") (for_each_ensures (length model.vehicles) (λ so_far. capped_ensures)) path d) λ capacities capacities_ok.
      after any_value λ fix_start _.
      after
      (optional_ensures (codes "visit") (replicate model.nodes (pos 0)) (replicated model.nodes (IsIn (pos 0) greatest_value) (pos 0) (nothing_in_range _))
      (full_array_ensures model.nodes (λ so_far. whole_ensures (pos 0) greatest_value)) path d) λ visit_times times_ok.
      gives (record { slack_max_in_range = slack_ok; capacities = capacities_ok; visit_times = times_ok })

  -- the rows and breaks that are read
  record AreStopTables (read : DimensionRows) : Type 0 where
    rows_of_visits : AreVisitRows model read.nodes
    rows_of_starts : AreVehicleRows model read.starts
    rows_of_ends : AreVehicleRows model read.ends
    breaks : AreRows (λ entry. entry.vehicle) 100 (λ v. v < length model.vehicles) AreBreaks read.breaks

  stop_tables_ensure : EachEnsures AreStopTables (stop_tables model.nodes (length model.vehicles) model.vehicles)
  unfolding stop_tables
  stop_tables_ensure path d =
      let vehicles : ℕ = length model.vehicles in
      after (stop_rows_ensure (λ node. IsTrue (is_visit model node)) (codes "nodes") (codes "node") 1000 _ (visit_ensures model) path d) λ nodes nodes_ok.
      after (stop_rows_ensure (λ v. v < vehicles) (codes "starts") (codes "vehicle") 100 _ (below_ensures vehicles) path d) λ starts starts_ok.
      after (stop_rows_ensure (λ v. v < vehicles) (codes "ends") (codes "vehicle") 100 _ (below_ensures vehicles) path d) λ ends ends_ok.
      after (rows_ensure (λ entry. entry.vehicle) (λ v. v < vehicles) AreBreaks (codes "breaks") 100 _ (vehicle_breaks_ensures vehicles) path d)
      λ breaks breaks_ok.
      gives (record {
        rows_of_visits = visit_rows nodes nodes_ok;
        rows_of_starts = vehicle_rows starts starts_ok;
        rows_of_ends = vehicle_rows ends ends_ok;
        breaks = breaks_ok;
      })

  -- the coefficients that are read
  record AreSpanCosts (read : SpanCosts) : Type 0 where
    by_vehicle : IsFull (length model.vehicles) (IsIn (pos 0) greatest_coefficient) read.by_vehicle
    global_in_range : IsIn (pos 0) greatest_coefficient read.global

  span_costs_ensure : EachEnsures AreSpanCosts (span_costs (length model.vehicles))
  unfolding span_costs
  span_costs_ensure path d =
      let vehicles : ℕ = length model.vehicles in
      after (optional_ensures (codes "span_cost") (replicate vehicles (pos 0))
      (replicated vehicles (IsIn (pos 0) greatest_coefficient) (pos 0) (nothing_in_range _))
      (for_each_ensures vehicles (λ so_far. whole_ensures (pos 0) greatest_coefficient)) path d) λ by_vehicle spans_ok.
      after (optional_ensures (codes "global_span_cost") (pos 0) (nothing_in_range _) (whole_ensures (pos 0) greatest_coefficient) path d) λ global global_ok.
      gives (record { by_vehicle = spans_ok; global_in_range = global_ok })

  pub dimension_ensures : EachFresh (IsDimension model) (λ other read. bytes_eq other.name read.name)
      (dimension model.nodes (length model.matrices) (length model.vehicles) model.vehicles)
  unfolding dimension
  dimension_ensures earlier path d =
      after (required_ensures (codes "name") (name_ensures earlier) path d) λ bytes name_ok.
      after (transits_ensure path d) λ by_vehicle transits_ok.
      after (bounds_ensure path d) λ within bounds_ok.
      after (stop_tables_ensure path d) λ stops stops_ok.
      after (span_costs_ensure path d) λ spans spans_ok.
      after any_value λ others _.
      gives (
        record {
          length_of_name = name_ok.0;
          number_of_evaluators = transits_ok.number_of_evaluators;
          each_evaluator = transits_ok.each_evaluator;
          evaluator_of_each_vehicle = transits_ok.numbers.one_for_each;
          vehicle_evaluators_in_range = transits_ok.numbers.each_entry;
          slack_max_in_range = bounds_ok.slack_max_in_range;
          capacity_of_each_vehicle = bounds_ok.capacities.one_for_each;
          capacities_in_range = bounds_ok.capacities.each_entry;
          visit_time_of_each_node = bounds_ok.visit_times.one_for_each;
          visit_times_in_range = bounds_ok.visit_times.each_entry;
          rows_of_visits = stops_ok.rows_of_visits;
          rows_of_starts = stops_ok.rows_of_starts;
          rows_of_ends = stops_ok.rows_of_ends;
          number_of_breaks = stops_ok.breaks.number_of_rows;
          each_break_of_vehicle = stops_ok.breaks.each_key;
          breaks_of_no_vehicle_twice = stops_ok.breaks.no_key_twice;
          each_breaks = stops_ok.breaks.each_row;
          span_cost_of_each_vehicle = spans_ok.by_vehicle.one_for_each;
          span_costs_in_range = spans_ok.by_vehicle.each_entry;
          global_span_cost_in_range = spans_ok.global_in_range;
        },
        name_ok.1,
      )
