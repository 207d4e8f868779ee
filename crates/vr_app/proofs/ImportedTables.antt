-- What the vehicles and the dimension of a file are read as.
use Rattle.std.proofs.Common.{◌≡◌, ℕ, ◌-◌, ◌^◌, ◌<◌, ◌≤◌, Bool, true, false, cond, List, [], ◌∷◌, map, replicate, Option, Some, None, unwrap_or, find, Result}
use Rattle.std.proofs.Common.{Ok, Err, refl, ap, arith}
use Rattle.std.specs.Prelude.{ℤ, pos, ◌==◌, codes, int_lt, if◌then◌else◌}
use Rattle.std.specs.List.{All}
use Rattle.std.proofs.lemmas.Int.{ints}
use Rattle.std.proofs.lemmas.List.FromFn.{length-range_with_len}
use Rattle.std.proofs.lemmas.List.Elements.{All-head, All-tail}
use Rattle.vr_json.specs.declared.fault.Cause.{Cause}
use Rattle.vr_json.specs.Reading.{ReaderOf, and_then, at_path, field, if_present, required, optional, maybe, present, known, if_unknown, list, entries}
use Rattle.vr_json.specs.Reading.{array as array_of, for_each, refuse_if}
use Rattle.vr_json.specs.Kinds.{whole_in, whole, count as count_of, text, flag}
use Rattle.vr_model.specs.tables.Limits.{least_value, greatest_value}
use Rattle.vr_model.specs.tables.Numbers.{below, horizon}
use Rattle.vr_model.specs.declared.records.Vehicle.{Vehicle}
use Rattle.vr_model.specs.declared.records.Policy.TheVariants.{Any}
use Rattle.vr_model.specs.declared.records.ScheduleRule.TheVariants.{Earliest}
use Rattle.vr_model.specs.declared.records.Dimension.{Dimension}
use Rattle.vr_model.specs.declared.records.Evaluator.{Evaluator}
use Rattle.vr_read.specs.declared.formats.Format.TheVariants.{One}
use Rattle.vr_read.specs.Vehicles.{vehicle as vehicle_of, ends, schedule}
use Rattle.vr_read.specs.Dimensions.{evaluator, capped, name, transits, bounds, rows, span_costs, dimension}
use Rattle.vr_gen.proofs.ExactReadings.{ReadsAs, step, whole_reads, below_reads, array_each}
use Rattle.vr_tsplib.specs.declared.section_rows.DemandRow.{DemandRow}
use Rattle.vr_tsplib.specs.declared.files.State.{State}
use Rattle.vr_tsplib.specs.Ranges.{IsFew}
use Rattle.vr_tsplib.specs.Rows.{demand_of, demand_row_of}
use Rattle.vr_tsplib.specs.Trees.{demands, file_nodes, fleet, loads, vehicle}
use Rattle.vr_json.specs.Trees.{count}

-- ---- counts

-- what is read at a path was read
read_within : {A : Type 0} {x : A} (path : List ℕ) (r : Result A Cause) → at_path path r ≡ Ok x → r ≡ Ok x
unfolding at_path
read_within path (Ok y) h = cc
read_within path (Err cause) h = absurd cc

-- a count in its range
pub count_reads : (n lo hi : ℕ) (path : List ℕ) → lo ≤ n → n ≤ hi → hi ≤ 1000 → count_of lo hi path (count n) ≡ Ok n
unfolding count_of whole at_path and_then
count_reads n lo hi path low high few =
    let is : whole_in (pos lo) (pos hi) (count n) ≡ Ok (pos n) = read_within path _
    (whole_reads n (omega (arith, high, few)) (pos lo) (pos hi) path (omega (arith, ints, low)) (omega (arith, ints, high))) in
    ap (at_path path) (step _ is refl)

-- ---- vehicles

abbrev pub vehicle_read : ℕ → Vehicle
vehicle_read node = record { start = node; «end» = node; costs = 0; fixed = pos 0; policy = Any; schedule = Earliest }

abbrev pub fleet_read : ℕ → ℕ → List Vehicle
fleet_read vehicles node = map (λ v. vehicle_read node) (below vehicles)

module _ (n node : ℕ) (few : n ≤ 1000) (low : node < n) where
  vehicle_reads : (path : List ℕ) → vehicle_of One n 1 path (vehicle node) ≡ Ok (vehicle_read node)
  unfolding vehicle_of ends schedule required optional known if_unknown field if_present at_path and_then
  vehicle_reads path =
      let small : node < 2 ^ 63 = omega (arith, few, low) in
      step _ (step _ (below_reads node small n _ low) (step _ (below_reads node small n _ low) refl)) refl

  pub fleet_reads : (vehicles : ℕ) (path : List ℕ) → 1 ≤ vehicles → vehicles ≤ 100
      → array_of 1 100 (λ so_far. vehicle_of One n 1) path (fleet vehicles node) ≡ Ok (fleet_read vehicles node)
  fleet_reads vehicles path some few =
      let all = length-range_with_len 0 vehicles in
      array_each (λ so_far. vehicle_of One n 1) (λ v. vehicle node) (λ v. vehicle_read node) 1 100 path (below vehicles)
      (omega (arith, some, all)) (omega (arith, few, all)) (λ k d low earlier path. vehicle_reads path)

-- ---- demands

-- a row that is found has a small demand, and so has a row of none
found_few : (t : Bool) (row other : DemandRow) (rest : Option DemandRow) → IsFew row
    → IsFew (unwrap_or rest other) → IsFew (unwrap_or (cond t (Some row) rest) other)
found_few true row other rest h k = h
found_few false row other rest h k = k

demand_few : (rows : List DemandRow) (node : ℕ) → All IsFew rows → IsFew (demand_row_of rows node)
demand_few [] node h = omega arith
demand_few (row ∷ rows) node h =
    found_few (row.node == node) row (record { node = node; demand = 0 }) (find (λ row. row.node == node) rows)
    (All-head IsFew row rows h) (demand_few rows node (All-tail IsFew row rows h))

module _ (n : ℕ) (state : State) where
  abbrev pub demands_read : List ℤ
  demands_read = map (λ node. pos (demand_of state.demands node)) (file_nodes n)

  abbrev value_reader : List ℤ → ReaderOf ℤ
  value_reader so_far = whole least_value greatest_value

  demands_reads : (path : List ℕ) → All IsFew state.demands → array_of n n value_reader path (demands n state) ≡ Ok demands_read
  demands_reads path few =
      let all = length-range_with_len 1 n in
      array_each value_reader (λ node. count (demand_of state.demands node)) (λ node. pos (demand_of state.demands node))
      n n path (file_nodes n) (omega (arith, all)) (omega (arith, all)) (λ k d low. each _)
    where
      each : (node : ℕ) → ReadsAs value_reader (λ node. count (demand_of state.demands node)) (λ node. pos (demand_of state.demands node)) node
      each node so_far path =
          let small = demand_few state.demands node few in
          whole_reads (demand_of state.demands node) (omega (arith, small)) least_value greatest_value path (omega (arith, ints)) (omega (arith, ints, small))

  -- ---- the dimension

  abbrev pub loads_evaluator : Evaluator
  loads_evaluator = record { matrix = None; values = demands_read }

  -- a capacity, which no cumul is above
  abbrev pub capacity_read : ℕ → ℤ
  capacity_read capacity = if int_lt horizon (pos capacity) then horizon else pos capacity

  abbrev pub loads_read : ℕ → ℕ → Dimension
  loads_read vehicles capacity = record {
    name = codes "load";
    evaluators = loads_evaluator ∷ [];
    vehicle_evaluators = replicate vehicles 0;
    slack_max = pos 0;
    capacities = replicate vehicles (capacity_read capacity);
    fix_start = true;
    visit = replicate n (pos 0);
    nodes = [];
    starts = [];
    ends = [];
    breaks = [];
    span_costs = replicate vehicles (pos 0);
    global_span_cost = pos 0;
  }

  module _ (vehicles capacity : ℕ) (all : List Vehicle) (path : List ℕ) (few : All IsFew state.demands) where
    loads_transits : transits n 1 vehicles path (loads capacity (demands n state))
        ≡ Ok (record { evaluators = loads_evaluator ∷ []; vehicle_evaluators = replicate vehicles 0 })
    unfolding loads transits evaluator required optional maybe present known if_unknown field if_present array_of list entries at_path and_then
    loads_transits = step _ (step _ (step _ (demands_reads _ few) refl) refl) refl

    loads_bounds : capacity ≤ 68719476736 → bounds n vehicles path (loads capacity (demands n state))
        ≡ Ok (record { slack_max = pos 0; capacities = replicate vehicles (capacity_read capacity); fix_start = true; visit = replicate n (pos 0) })
    unfolding loads bounds capped flag for_each required optional field if_present at_path and_then
    loads_bounds in_range =
        step _ (step _ (whole_reads 0 (omega arith) (pos 0) (pos (2 ^ 63 - 1)) _ (omega (arith, ints)) (omega (arith, ints))) refl)
        (step _
        (step _
        (step _ (whole_reads capacity (omega (arith, in_range)) (pos 0) (pos (2 ^ 63 - 1)) _ (omega (arith, ints)) (omega (arith, ints, in_range))) refl)
        refl) refl)

    pub loads_reads : capacity ≤ 68719476736 → dimension n 1 vehicles all [] path (loads capacity (demands n state)) ≡ Ok (loads_read vehicles capacity)
    unfolding loads dimension name text rows span_costs required optional known if_unknown field if_present refuse_if at_path and_then
    loads_reads in_range = step _ loads_transits (step _ (loads_bounds in_range) refl)
