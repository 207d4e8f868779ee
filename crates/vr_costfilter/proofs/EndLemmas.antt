-- By the runs of its stops a walk tells where a line without breaks ends first, and how late it can then start: the
-- earlier of a schedule and of the way that comes to the least end without waiting is a schedule, and so is the later of
-- one that ends so and of the way from the latest start without waiting.
use Rattle.std.proofs.Common.{◌≡◌, ◌∙◌, ℕ, zero, suc, ◌<◌, ◌≤◌, ◌⊎◌, inl, inr, List, [], length, map, ℤ, pos, ◌+ℤ◌, ◌-ℤ◌, ◌≤ℤ◌, refl, sym, ap, subst, arith}
use Rattle.std.specs.Prelude.{false, slice_index_or, cond, IsTrue}
use Rattle.std.specs.Int.{int_max, int_min}
use Rattle.std.proofs.lemmas.Bool.{and_parts, and_from}
use Rattle.std.proofs.lemmas.Int.{ints, int_max_is, int_min_is}
use Rattle.std.proofs.lemmas.List.{length-map}
use Rattle.std.proofs.lemmas.List.FromFn.{get_or-map-range_with_len, length-range_with_len}
use Rattle.vr_spans.specs.Runs.{in_run}
use Rattle.vr_spans.specs.declared.runs.Run.{Run}
use Rattle.vr_model.specs.tables.Numbers.{below, horizon, total_by, within}
use Rattle.vr_model.specs.schedules.Lines.{Line}
use Rattle.vr_model.specs.schedules.Schedules.{Plan, IsSchedule, IsFeasible, allows, arc_at, break_at, cumul, is_inside, slack}
use Rattle.vr_model.specs.schedules.Tight.{end_of, IsLatestStart, IsLeastEnd}
use Rattle.vr_costfilter.specs.Runs.{HasRuns, run_at}
use Rattle.vr_costfilter.specs.Ways.{least_end_by, last_start, latest_to, time_at, transits_to}

same-or-sooner : (k i : ℕ) → k ≤ suc i → (k ≤ i) ⊎ (k ≡ suc i)
same-or-sooner k i le = Prim.grind arith

module _ (line : Line) (runs : List Run) (are : HasRuns line runs) where
  -- ---- what bounds schedules

  pub bounds : (plan : Plan) → IsSchedule line plan → (k : ℕ) → k ≤ length line.arcs
      → ((run_at runs k).lo ≤ℤ cumul plan k) × (cumul plan k ≤ℤ (run_at runs k).hi)
  bounds plan s k le =
      within-run (cumul plan k) (s.cumuls_allowed k (omega (arith, are.stops, le)))
    where
      within-run : (x : ℤ) → IsTrue (allows line k x) → ((run_at runs k).lo ≤ℤ x) × (x ≤ℤ (run_at runs k).hi)
      within-run x there =
          let inside : IsTrue (in_run (run_at runs k) x) = (are.each k le).exact x
          ∙ (and_parts (within (pos 0) horizon x) (slice_index_or line.allowed k (λ _. false) x) there).1 in
          (grind (arith, ints, inside), grind (arith, ints, inside))

  onward : (plan : Plan) → IsSchedule line plan → (k : ℕ) → k < length line.arcs → (cumul plan k +ℤ (arc_at line k).transit) ≤ℤ cumul plan (suc k)
  onward plan s k low =
      let left = s.slacks_left k low in
      let none = (s.slacks_bounded k low).0 in
      omega (arith, ints, left, none)

  most-on : (plan : Plan) → IsSchedule line plan → (k : ℕ) → k < length line.arcs
      → cumul plan (suc k) ≤ℤ ((cumul plan k +ℤ (arc_at line k).transit) +ℤ line.slack_max)
  most-on plan s k low =
      let left = s.slacks_left k low in
      let most = (s.slacks_bounded k low).1 in
      omega (arith, ints, left, most)

  time-least : (plan : Plan) → IsSchedule line plan → (k : ℕ) → k ≤ length line.arcs → time_at line runs k ≤ℤ cumul plan k
  time-least plan s zero le = (bounds plan s 0 le).0
  time-least plan s (suc k) le =
      let before = time-least plan s k (omega (arith, le)) in
      let on = onward plan s k (omega (arith, le)) in
      let low = (bounds plan s (suc k) le).0 in
      let m = int_max_is (time_at line runs k +ℤ (arc_at line k).transit) (run_at runs (suc k)).lo in
      omega (arith, ints, m, before, on, low)

  transits-most : (plan : Plan) → IsSchedule line plan → (k : ℕ) → k ≤ length line.arcs → (cumul plan 0 +ℤ transits_to line k) ≤ℤ cumul plan k
  transits-most plan s zero le = omega (arith, ints)
  transits-most plan s (suc k) le =
      let before = transits-most plan s k (omega (arith, le)) in
      let on = onward plan s k (omega (arith, le)) in
      omega (arith, ints, before, on)

  latest-most : (plan : Plan) → IsSchedule line plan → (k : ℕ) → k ≤ length line.arcs → cumul plan 0 ≤ℤ latest_to line runs k
  latest-most plan s zero le = (bounds plan s 0 le).1
  latest-most plan s (suc k) le =
      let before = latest-most plan s k (omega (arith, le)) in
      let high = (bounds plan s (suc k) le).1 in
      let way = transits-most plan s (suc k) le in
      let m = int_min_is (latest_to line runs k) ((run_at runs (suc k)).hi -ℤ transits_to line (suc k)) in
      omega (arith, ints, m, before, high, way)

module _ (line : Line) (runs : List Run) (are : HasRuns line runs) where
  -- ---- the walk itself

  pub low-time : (k : ℕ) → (run_at runs k).lo ≤ℤ time_at line runs k
  low-time zero = omega (arith, ints)
  low-time (suc k) = let m = int_max_is (time_at line runs k +ℤ (arc_at line k).transit) (run_at runs (suc k)).lo in omega (arith, ints, m)

  time-on : (k i : ℕ) → k ≤ i → (time_at line runs k -ℤ transits_to line k) ≤ℤ (time_at line runs i -ℤ transits_to line i)
  time-on k zero le =
      let e : 0 ≡ k = omega (arith, le) in
      subst (λ j. (time_at line runs j -ℤ transits_to line j) ≤ℤ (time_at line runs 0 -ℤ transits_to line 0)) e (omega (arith, ints))
  time-on k (suc i) le = elim (same-or-sooner k i le) [
    | inl sooner ↦ (let before = time-on k i sooner in
        let m = int_max_is (time_at line runs i +ℤ (arc_at line i).transit) (run_at runs (suc i)).lo in
        omega (arith, ints, m, before))
    | inr same ↦
        subst (λ j. (time_at line runs j -ℤ transits_to line j) ≤ℤ (time_at line runs (suc i) -ℤ transits_to line (suc i))) (sym same) (omega (arith, ints))
  ]

  latest-on : (k i : ℕ) → k ≤ i → (latest_to line runs i +ℤ transits_to line k) ≤ℤ (run_at runs k).hi
  latest-on k zero le =
      let e : 0 ≡ k = omega (arith, le) in
      subst (λ j. (latest_to line runs 0 +ℤ transits_to line j) ≤ℤ (run_at runs j).hi) e (omega (arith, ints))
  latest-on k (suc i) le = elim (same-or-sooner k i le) [
    | inl sooner ↦ (let before = latest-on k i sooner in
        let m = int_min_is (latest_to line runs i) ((run_at runs (suc i)).hi -ℤ transits_to line (suc i)) in
        omega (arith, ints, m, before))
    | inr same ↦ subst (λ j. (latest_to line runs (suc i) +ℤ transits_to line j) ≤ℤ (run_at runs j).hi) (sym same)
        (let m = int_min_is (latest_to line runs i) ((run_at runs (suc i)).hi -ℤ transits_to line (suc i)) in omega (arith, ints, m))
  ]

  -- ---- a schedule of cumuls

  module _ (q : ℕ → ℤ) (low : (k : ℕ) → k ≤ length line.arcs → (run_at runs k).lo ≤ℤ q k) (high : (k : ℕ) → k ≤ length line.arcs → q k ≤ℤ (run_at runs k).hi)
      (on : (k : ℕ) → k < length line.arcs → (q k +ℤ (arc_at line k).transit) ≤ℤ q (suc k))
      (most : (k : ℕ) → k < length line.arcs → q (suc k) ≤ℤ ((q k +ℤ (arc_at line k).transit) +ℤ line.slack_max)) where
    abbrev left : ℕ → ℤ
    left k = (q (suc k) -ℤ q k) -ℤ (arc_at line k).transit

    abbrev pub made : Plan
    made = record { cumuls = map q (below (suc (length line.arcs))); slacks = map left (below (length line.arcs)); breaks = [] }

    pub made-is : (k : ℕ) → k ≤ length line.arcs → cumul made k ≡ q k
    made-is k le = get_or-map-range_with_len q 0 (suc (length line.arcs)) k k (pos 0) (omega (arith, le)) (omega arith)

    slack-is : (k : ℕ) → k < length line.arcs → slack made k ≡ left k
    slack-is k less = get_or-map-range_with_len left 0 (length line.arcs) k k (pos 0) less (omega arith)

    no-break : (i : ℕ) → i < length line.breaks → ⊥
    no-break i less = let m = ap length are.no_breaks in omega (arith, m, less)

    there : (k : ℕ) → k ≤ length line.arcs → IsTrue (allows line k (q k))
    there k le =
        let run = are.each k le in
        let a = low k le in
        let b = high k le in
        let inside : IsTrue (in_run (run_at runs k) (q k)) = grind (arith, ints, a, b) in
        and_from _ _ (grind (arith, ints, a, b, run.ends.lo.at_least, run.ends.hi.at_most)) (sym (run.exact (q k)) ∙ inside)

    pub made-schedule : IsSchedule line made
    made-schedule = record {
      cumul_of_each_stop = length-map (below (suc (length line.arcs))) q ∙ length-range_with_len 0 (suc (length line.arcs)) ∙ sym are.stops;
      slack_of_each_arc = length-map (below (length line.arcs)) left ∙ length-range_with_len 0 (length line.arcs);
      start_of_each_break = sym (ap length are.no_breaks);
      cumuls_allowed =
          λ k less. (let le : k ≤ length line.arcs = omega (arith, are.stops, less) in subst (λ x. IsTrue (allows line k x)) (sym (made-is k le)) (there k le));
      slacks_left = λ k less.
          (let a = slack-is k less in let b = made-is k (omega (arith, less)) in let c = made-is (suc k) (omega (arith, less)) in omega (arith, ints, a, b, c));
      slacks_bounded =
          λ k less. (let a = slack-is k less in let b = on k less in let c = most k less in (omega (arith, ints, a, b), omega (arith, ints, a, c)));
      breaks_in_range = λ i less. absurd (no-break i less);
      breaks_in_order = λ i less. absurd (no-break (suc i) less);
      breaks_placed = λ i less. absurd (no-break i less);
      slacks_carry_breaks = λ k less.
          let nothing = ap (λ m. total_by (λ i. cond (is_inside line made i k) (break_at line i).duration (pos 0)) (below m)) (ap length are.no_breaks) in
          let a = slack-is k less in
          let b = on k less in
          subst (λ x. x ≤ℤ slack made k) (sym nothing) (omega (arith, ints, a, b));
    }

  -- ---- the least end

  module _ (plan : Plan) (s : IsSchedule line plan) where
    -- not before the plan, and not before the time from which the end is reached without waiting
    abbrev soon : ℕ → ℤ
    soon k = int_min (cumul plan k) (least_end_by line runs +ℤ (transits_to line k -ℤ transits_to line (length line.arcs)))

    soon-is : (k : ℕ) → soon k ≡ int_min (cumul plan k) (least_end_by line runs +ℤ (transits_to line k -ℤ transits_to line (length line.arcs)))
    soon-is k = refl

    ends-soon : IsLeastEnd line (least_end_by line runs)
    ends-soon = record {
      reached = (made soon low high on most, made-schedule soon low high on most, made-is soon low high on most (length line.arcs) (omega arith) ∙ at);
      least = λ other o. time-least line runs are other o (length line.arcs) (omega arith);
    }
      where
        low : (k : ℕ) → k ≤ length line.arcs → (run_at runs k).lo ≤ℤ soon k
        low k le =
            let b = (bounds line runs are plan s k le).0 in
            let l = low-time k in
            let o = time-on k (length line.arcs) le in
            let m = int_min_is (cumul plan k) (least_end_by line runs +ℤ (transits_to line k -ℤ transits_to line (length line.arcs))) in
            omega (arith, ints, b, l, o, m)

        high : (k : ℕ) → k ≤ length line.arcs → soon k ≤ℤ (run_at runs k).hi
        high k le =
            let b = (bounds line runs are plan s k le).1 in
            let m = int_min_is (cumul plan k) (least_end_by line runs +ℤ (transits_to line k -ℤ transits_to line (length line.arcs))) in
            omega (arith, ints, b, m)

        on : (k : ℕ) → k < length line.arcs → (soon k +ℤ (arc_at line k).transit) ≤ℤ soon (suc k)
        on k less =
            let o = onward line runs are plan s k less in
            let m = int_min_is (cumul plan k) (least_end_by line runs +ℤ (transits_to line k -ℤ transits_to line (length line.arcs))) in
            let l = int_min_is (cumul plan (suc k)) (least_end_by line runs +ℤ (transits_to line (suc k) -ℤ transits_to line (length line.arcs))) in
            omega (arith, ints, o, m, l)

        most : (k : ℕ) → k < length line.arcs → soon (suc k) ≤ℤ ((soon k +ℤ (arc_at line k).transit) +ℤ line.slack_max)
        most k less =
            let o = onward line runs are plan s k less in
            let p = most-on line runs are plan s k less in
            let m = int_min_is (cumul plan k) (least_end_by line runs +ℤ (transits_to line k -ℤ transits_to line (length line.arcs))) in
            let l = int_min_is (cumul plan (suc k)) (least_end_by line runs +ℤ (transits_to line (suc k) -ℤ transits_to line (length line.arcs))) in
            omega (arith, ints, o, p, m, l)

        at : soon (length line.arcs) ≡ least_end_by line runs
        at =
            let b = time-least line runs are plan s (length line.arcs) (omega arith) in
            let m = int_min_is (cumul plan (length line.arcs))
            (least_end_by line runs +ℤ (transits_to line (length line.arcs) -ℤ transits_to line (length line.arcs))) in
            omega (arith, ints, b, m)

  -- ---- the latest start

  start-most : (plan : Plan) → IsSchedule line plan → end_of line plan ≡ least_end_by line runs → cumul plan 0 ≤ℤ last_start line runs
  start-most plan s end =
      let a = latest-most line runs are plan s (length line.arcs) (omega arith) in
      let b = transits-most line runs are plan s (length line.arcs) (omega arith) in
      let m = int_min_is (latest_to line runs (length line.arcs)) (least_end_by line runs -ℤ transits_to line (length line.arcs)) in
      omega (arith, ints, a, b, m, end)

  module _ (plan : Plan) (s : IsSchedule line plan) (end : end_of line plan ≡ least_end_by line runs) where
    abbrev late : ℕ → ℤ
    late k = int_max (cumul plan k) (last_start line runs +ℤ transits_to line k)

    starts-late : IsLatestStart line (least_end_by line runs) (last_start line runs)
    starts-late = record {
      reached = (
        made late low high on most,
        made-schedule late low high on most,
        made-is late low high on most (length line.arcs) (omega arith) ∙ last,
        made-is late low high on most 0 (omega arith) ∙ first,
      );
      greatest = λ other o e. start-most other o e;
    }
      where
        low : (k : ℕ) → k ≤ length line.arcs → (run_at runs k).lo ≤ℤ late k
        low k le =
            let b = (bounds line runs are plan s k le).0 in
            let m = int_max_is (cumul plan k) (last_start line runs +ℤ transits_to line k) in
            omega (arith, ints, b, m)

        high : (k : ℕ) → k ≤ length line.arcs → late k ≤ℤ (run_at runs k).hi
        high k le =
            let b = (bounds line runs are plan s k le).1 in
            let o = latest-on k (length line.arcs) le in
            let l = int_min_is (latest_to line runs (length line.arcs)) (least_end_by line runs -ℤ transits_to line (length line.arcs)) in
            let m = int_max_is (cumul plan k) (last_start line runs +ℤ transits_to line k) in
            omega (arith, ints, b, o, l, m)

        on : (k : ℕ) → k < length line.arcs → (late k +ℤ (arc_at line k).transit) ≤ℤ late (suc k)
        on k less =
            let o = onward line runs are plan s k less in
            let m = int_max_is (cumul plan k) (last_start line runs +ℤ transits_to line k) in
            let l = int_max_is (cumul plan (suc k)) (last_start line runs +ℤ transits_to line (suc k)) in
            omega (arith, ints, o, m, l)

        most : (k : ℕ) → k < length line.arcs → late (suc k) ≤ℤ ((late k +ℤ (arc_at line k).transit) +ℤ line.slack_max)
        most k less =
            let o = onward line runs are plan s k less in
            let p = most-on line runs are plan s k less in
            let m = int_max_is (cumul plan k) (last_start line runs +ℤ transits_to line k) in
            let l = int_max_is (cumul plan (suc k)) (last_start line runs +ℤ transits_to line (suc k)) in
            omega (arith, ints, o, p, m, l)

        last : late (length line.arcs) ≡ least_end_by line runs
        last =
            let l = int_min_is (latest_to line runs (length line.arcs)) (least_end_by line runs -ℤ transits_to line (length line.arcs)) in
            let m = int_max_is (cumul plan (length line.arcs)) (last_start line runs +ℤ transits_to line (length line.arcs)) in
            omega (arith, ints, end, l, m)

        first : late 0 ≡ last_start line runs
        first =
            let b = start-most plan s end in
            let m = int_max_is (cumul plan 0) (last_start line runs +ℤ transits_to line 0) in
            omega (arith, ints, b, m)

  pub ends-told : IsFeasible line → IsLeastEnd line (least_end_by line runs) × IsLatestStart line (least_end_by line runs) (last_start line runs)
  ends-told feasible =
      let e = ends-soon feasible.0 feasible.1 in
      (e, starts-late e.reached.0 e.reached.1 e.reached.2)
