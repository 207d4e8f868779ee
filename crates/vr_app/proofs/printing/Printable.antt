-- What is printed of valid lists is printable.
use Rattle.std.proofs.Common.{◌≡◌, ◌∙◌, ℕ, suc, ◌*◌, ◌-◌, ◌^◌, ◌<◌, ◌≤◌, ◌++◌, Bool, true, false, cond, not, List, [], ◌∷◌, length, filter, Option, Some, None}
use Rattle.std.proofs.Common.{refl, arith}
use Rattle.std.specs.Prelude.{ℤ, pos, ◌≤ℤ◌, ◌==◌, IsTrue, find, option_map, unwrap_or}
use Rattle.std.specs.List.{All}
use Rattle.std.proofs.lemmas.Int.{ints}
use Rattle.std.proofs.lemmas.List.FromFn.{length-range_with_len}
use Rattle.std.proofs.lemmas.List.Elements.{All-nil, All-cons, All-head, All-tail, All-append, All-from_get_or}
use Rattle.vr_model.specs.tables.Numbers.{below, within, horizon}
use Rattle.vr_model.specs.tables.Tables.{vehicle_at, no_vehicle, dimension_at, no_dimension, is_visit, visits, breaks_of}
use Rattle.vr_model.specs.tables.WellFormed.{IsIn, WherePresent, IsBreak, AreBreaks, IsDimension, IsWellFormed}
use Rattle.vr_model.specs.deciding.Testing.{and_left, within_is}
use Rattle.vr_model.specs.routes.Routes.{route, is_active, is_empty, inactive}
use Rattle.vr_model.specs.routes.Rules.{is_valid}
use Rattle.vr_model.specs.routes.Costs.{assigned, parts_at, plan_at, cost}
use Rattle.vr_model.specs.schedules.Lines.{line}
use Rattle.vr_model.specs.schedules.Schedules.{Plan, IsSchedule, cumul, slack, break_start, no_break}
use Rattle.vr_model.specs.declared.records.Model.{Model}
use Rattle.vr_model.specs.declared.records.Dimension.{Dimension}
use Rattle.vr_model.specs.declared.records.VehicleBreaks.{VehicleBreaks}
use Rattle.vr_model.proofs.routes.Assigned.{open_meets_its_lines}
use Rattle.vr_model.proofs.routes.CostFits.{costs_are_bounded}
use Rattle.vr_model.proofs.routes.Lists.{are_lists-count, route-below, route-few}
use Rattle.vr_model.proofs.schedules.LinesSound.{found_is}
use Rattle.vr_print.specs.Solution.{route_nodes}
use Rattle.vr_check.proofs.Lines.{line_arcs, line_stops}
use Rattle.vr_gen.proofs.ExactReadings.{All-below}
use Rattle.vr_app.proofs.printing.ReadBack.{IsPrintable, IsPrintablePlan, IsPrintableAssignment, ArePrintableParts}
use Rattle.vr_app.proofs.printing.PrintedBack.{FitsList, nodes_long}
use Rattle.vr_check.proofs.ValidLists.{are, opened}

-- ---- numbers in range

printable : (z : ℤ) → pos 0 ≤ℤ z → z ≤ℤ horizon → IsPrintable z
printable z low high = record { at_least = low; at_most = omega (arith, ints, high) }

printable_within : (hi : ℕ) (z : ℤ) → hi ≤ 2 ^ 63 - 1 → IsIn (pos 0) (pos hi) z → IsPrintable z
printable_within hi z small h = record { at_least = h.at_least; at_most = omega (arith, ints, h.at_most, small) }

-- ---- filters

kept : (P : ℕ → Type 0) (q : ℕ → Bool) (xs : List ℕ) → All P xs → All P (filter q xs)
kept P q [] h = All-nil P
kept P q (x ∷ xs) h = by (q x) (kept P q xs (All-tail P x xs h))
  where
    by : (b : Bool) → All P (filter q xs) → All P (cond b (x ∷ filter q xs) (filter q xs))
    by true rest = All-cons P x (filter q xs) (All-head P x xs h) rest
    by false rest = rest

fewer : (q : ℕ → Bool) (xs : List ℕ) → length (filter q xs) ≤ length xs
fewer q [] = omega arith
fewer q (x ∷ xs) = by (q x) (fewer q xs)
  where
    by : (b : Bool) → length (filter q xs) ≤ length xs → length (cond b (x ∷ filter q xs) (filter q xs)) ≤ suc (length xs)
    by true h = omega (arith, h)
    by false h = omega (arith, h)

-- ---- breaks of a vehicle

record AreFewBreaks (dimension : Dimension) (v : ℕ) : Type 0 where
  each : All IsBreak (breaks_of dimension v)
  few : length (breaks_of dimension v) ≤ 8

few_breaks : (dimension : Dimension) (v : ℕ) → All AreBreaks dimension.breaks → AreFewBreaks dimension v
few_breaks dimension v each = record {
  each = rows (find (λ entry. entry.vehicle == v) dimension.breaks) (found_is AreBreaks (λ entry. entry.vehicle == v) dimension.breaks each);
  few = count (find (λ entry. entry.vehicle == v) dimension.breaks) (found_is AreBreaks (λ entry. entry.vehicle == v) dimension.breaks each);
}
  where
    rows : (o : Option VehicleBreaks) → WherePresent AreBreaks o → All IsBreak (unwrap_or (option_map (λ entry. entry.rows) o) [])
    rows None h = All-nil IsBreak
    rows (Some entry) h = h.each_row

    count : (o : Option VehicleBreaks) → WherePresent AreBreaks o → length (unwrap_or (option_map (λ entry. entry.rows) o) []) ≤ 8
    count None h = omega arith
    count (Some entry) h = let few = h.number_of_rows.at_most in omega (arith, few)

-- ---- valid lists

module _ (model : Model) (well : IsWellFormed model) (lists : List (List ℕ)) (valid : IsTrue (is_valid model lists)) where
  pub scheduled : (d v : ℕ) → d < length model.dimensions → v < length lists → is_empty (route lists v) ≡ false
      → IsSchedule (line model d v (route lists v)) (plan_at (assigned model lists) d v)
  scheduled d v low known some = open_meets_its_lines model lists (opened model lists valid) d v low known some

  dimension_is : (d : ℕ) → d < length model.dimensions → IsDimension model (dimension_at model d)
  dimension_is d low = well.each_dimension d no_dimension low

  pub fits : (d v : ℕ) → d < length model.dimensions → v < length lists → is_empty (route lists v) ≡ false
      → FitsList (length (route lists v)) (length (breaks_of (dimension_at model d) v)) (plan_at (assigned model lists) d v)
  fits d v low known some =
      let s = scheduled d v low known some in
      record {
        cumuls = s.cumul_of_each_stop ∙ line_stops model d v (route lists v);
        slacks = s.slack_of_each_arc ∙ line_arcs model d v (route lists v);
        starts = s.start_of_each_break;
      }

  visits_few : (v : ℕ) → length (route lists v) ≤ 1000
  visits_few v = let few = route-few model lists v (are model lists valid) in let nodes = well.number_of_nodes.1 in omega (arith, few, nodes)

  printable_plan : (d v : ℕ) → d < length model.dimensions → v < length lists
      → is_empty (route lists v) ≡ false → IsPrintablePlan (plan_at (assigned model lists) d v)
  printable_plan d v low known some =
      let s = scheduled d v low known some in
      let f = fits d v low known some in
      let short = visits_few v in
      let dimension : Dimension = dimension_at model d in
      let plan : Plan = plan_at (assigned model lists) d v in
      let breaks = few_breaks dimension v (dimension_is d low).each_breaks in
      record {
        cumuls = All-from_get_or IsPrintable plan.cumuls (pos 0) (λ k here.
            (let all = s.cumul_of_each_stop in
            let inside = within_is (pos 0) horizon (cumul plan k)
            (and_left (within (pos 0) horizon (cumul plan k)) _ (s.cumuls_allowed k (omega (arith, here, all)))) in
            printable (cumul plan k) inside.0 inside.1));
        slacks = All-from_get_or IsPrintable plan.slacks (pos 0) (λ k here.
            (let all = s.slack_of_each_arc in
            let bounds = s.slacks_bounded k (omega (arith, here, all)) in
            let most = (dimension_is d low).slack_max_in_range.at_most in
            printable (slack plan k) bounds.0 (above (slack plan k) dimension.slack_max bounds.1 most)));
        breaks = All-from_get_or IsPrintable plan.breaks (pos 0) (λ i here.
            (let all = s.start_of_each_break in
            let there : i < length (breaks_of dimension v) = omega (arith, here, all) in
            let range = s.breaks_in_range i there in
            let row = breaks.each i no_break there in
            printable (break_start plan i) (below_start _ (break_start plan i) row.from_in_range range.0)
            (above (break_start plan i) _ range.1 row.to_in_range)));
        few_cumuls = (let n = f.cumuls in omega (arith, n, short));
        few_slacks = (let n = f.slacks in omega (arith, n, short));
        few_breaks = (let n = f.starts in let few = breaks.few in omega (arith, n, few));
      }
    where
      above : (x y : ℤ) → x ≤ℤ y → y ≤ℤ horizon → x ≤ℤ horizon
      above x y h k = omega (arith, ints, h, k)

      below_start : (x y : ℤ) → pos 0 ≤ℤ x → x ≤ℤ y → pos 0 ≤ℤ y
      below_start x y h k = omega (arith, ints, h, k)

  nodes_low : (v : ℕ) → v < length model.vehicles → (list : List ℕ)
      → All (λ node. node < model.nodes) list → All (λ node. node < model.nodes) (route_nodes model v list)
  nodes_low v low [] h = All-nil _
  nodes_low v low (x ∷ xs) h =
      let P : ℕ → Type 0 = λ node. node < model.nodes in
      let vehicle = well.each_vehicle v no_vehicle low in
      let final : List ℕ = (vehicle_at model v).end ∷ [] in
      All-cons P (vehicle_at model v).start ((x ∷ xs) ++ final) vehicle.start_in_range
      (All-append P (x ∷ xs) final h (All-cons P (vehicle_at model v).end [] vehicle.end_in_range (All-nil P)))

  nodes_short : (v : ℕ) (list : List ℕ) → length list ≤ 1000 → length (route_nodes model v list) ≤ 1002
  nodes_short v [] h = omega arith
  nodes_short v (x ∷ xs) h = let long = nodes_long model v (x ∷ xs) refl in omega (arith, long, h)

  pub all_vehicles : length lists ≡ length model.vehicles
  all_vehicles = are_lists-count model lists (are model lists valid)

  pub printable_assignment : IsPrintableAssignment model (assigned model lists)
  printable_assignment = record {
    few_nodes = well.number_of_nodes.1;
    few_vehicles = (let few = well.number_of_vehicles.at_most in omega (arith, few, all_vehicles));
    few_dimensions = well.number_of_dimensions;
    names = λ d low. (dimension_is d low).length_of_name.at_most;
    plans = printable_plan;
    nodes = λ v low. nodes_low v (omega (arith, low, all_vehicles)) (route lists v) (route-below model lists v (are model lists valid));
    short = λ v low. (let short = nodes_short v (route lists v) (visits_few v) in omega (arith, short));
  }

  pub printable_parts : ArePrintableParts (parts_at model (assigned model lists))
  unfolding cost
  printable_parts =
      let bounded = costs_are_bounded model well lists valid in
      let parts = bounded.parts in
      record {
        arcs = printable_within (1100 * 2 ^ 40) _ (omega arith) parts.arcs;
        fixed = printable_within (100 * 2 ^ 40) _ (omega arith) parts.fixed;
        global = printable_within (4 * 10000 * 2 ^ 36) _ (omega arith) parts.global;
        penalty = printable_within (1000 * 1000 * 2 ^ 40) _ (omega arith) parts.penalty;
        soft = printable_within (1200 * 4 * 10000 * 2 ^ 36) _ (omega arith) parts.soft;
        span = printable_within (100 * 4 * 10000 * 2 ^ 36) _ (omega arith) parts.span;
        sum = record { at_least = bounded.least; at_most = bounded.greatest };
      }

  pub dropped_low : All (λ node. node < model.nodes) (inactive model lists)
  dropped_low =
      let P : ℕ → Type 0 = λ node. node < model.nodes in
      kept P (λ node. not (is_active lists node)) (visits model) (kept P (is_visit model) (below model.nodes) (All-below P model.nodes (λ i low. low)))

  pub dropped_few : length (inactive model lists) ≤ 1000
  dropped_few =
      let one = fewer (λ node. not (is_active lists node)) (visits model) in
      let two = fewer (is_visit model) (below model.nodes) in
      let nodes = well.number_of_nodes.1 in
      omega (arith, one, two, nodes, length-range_with_len 0 model.nodes)
