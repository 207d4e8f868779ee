-- The least start that was tried is the least that schedules have.
use Rattle.std.proofs.Common.{◌≡◌, ℕ, zero, suc, ◌+◌, ◌<◌, ◌≤◌, true, false, cond, Bool, ◌&&◌, List, length, get_or, Some, None, ℤ, pos, ◌+ℤ◌, ◌-ℤ◌, ◌≤ℤ◌, ◌⊎◌}
use Rattle.std.proofs.Common.{inl, inr, sym, subst, ap, ◌∙◌, arith}
use Rattle.std.specs.Prelude.{IsTrue, nat_lt, int_le, if◌then◌else◌}
use Rattle.std.proofs.lemmas.Int.{ints, clamps}
use Rattle.std.proofs.lemmas.Bool.Decides.{nat_tests}
use Rattle.vr_model.specs.tables.Numbers.{number_at}
use Rattle.std.specs.List.{range_with_len}
use Rattle.std.proofs.lemmas.Bool.{cases_lt}
use Rattle.vr_model.specs.tables.Numbers.{total_by}
use Rattle.vr_model.specs.deciding.Testing.{and_left, and_right, and_both, le_of_test, test_of_le}
use Rattle.vr_model.specs.schedules.Lines.{Line}
use Rattle.vr_model.specs.schedules.Schedules.{Plan, IsSchedule, IsFeasible, cumul, break_at, break_start, break_end, is_before, is_after, is_inside}
use Rattle.vr_model.specs.schedules.Schedules.{break_time, slack, arc_at}
use Rattle.vr_model.specs.schedules.SoundLines.{IsSound}
use Rattle.vr_steps.specs.declared.hops.Hop.{Hop}
use Rattle.vr_plan.specs.Plans.{no_hop}
use Rattle.vr_plan.specs.Narrow.{place_begin, first_at, may_stand, stands_at, row_pinned, IsLeastTried}
use Rattle.vr_plan.proofs.EarlierStarts.{StandsAt, moved, moved_schedule, start_there}
use Rattle.vr_plan.proofs.RowPins.{to_row_pinned}

not_below_itself : (n : ℕ) → nat_lt n n ≡ false
not_below_itself n = grind (arith, nat_tests)

is_below : (k n : ℕ) → k < n → nat_lt k n ≡ true
is_below k n lt = grind (arith, nat_tests)

-- inside arc k
pub inside_arc : (hops : List Hop) (cumuls : List ℤ) (long x : ℤ) (k : ℕ) → k < length hops
    → (int_le (x +ℤ long) (number_at cumuls (k + 1)) && int_le (number_at cumuls k +ℤ (get_or hops k no_hop).transit) (number_at cumuls (k + 1) -ℤ long))
    ≡ may_stand hops cumuls long x (suc k)
inside_arc hops cumuls long x k lt =
    let next : k + 1 ≡ suc k = omega arith in
    ap (λ n. int_le (x +ℤ long) (number_at cumuls n) && int_le (number_at cumuls k +ℤ (get_or hops k no_hop).transit) (number_at cumuls n -ℤ long)) next
    ∙ sym (ap (λ b. if b
    then int_le (x +ℤ long) (number_at cumuls (suc k)) && int_le (number_at cumuls k +ℤ (get_or hops k no_hop).transit) (number_at cumuls (suc k) -ℤ long)
    else true) (is_below k (length hops) lt))

-- a sum of numbers that are not negative is no less than each
none_negative : (f : ℕ → ℤ) (a n : ℕ) → ((j : ℕ) → a ≤ j → j < a + n → pos 0 ≤ℤ f j) → pos 0 ≤ℤ total_by f (range_with_len a n)
none_negative f a zero h = omega (arith, ints)
none_negative f a (suc n) h =
    let x = h a (omega arith) (omega arith) in
    let y = none_negative f (a + 1) n (λ j low high. h j (omega arith) (omega arith)) in omega (arith, ints, x, y)

one_of : (f : ℕ → ℤ) (a n i : ℕ) → ((j : ℕ) → a ≤ j → j < a + n → pos 0 ≤ℤ f j) → a ≤ i → i < a + n → f i ≤ℤ total_by f (range_with_len a n)
one_of f a zero i h from to = absurd (omega (arith, from, to))
one_of f a (suc n) i h from to = elim (cases_lt a i) [
  | inl later ↦ (
      let x = h a (omega arith) (omega arith) in
      let y = one_of f (a + 1) n i (λ j low high. h j (omega arith) (omega arith)) (omega (arith, later)) (omega (arith, to)) in omega (arith, ints, x, y))
  | inr here ↦ (
      let same : f i ≡ f a = ap f (let e : i ≡ a = omega (arith, from, here) in e) in
      let y = none_negative f (a + 1) n (λ j low high. h j (omega arith) (omega arith)) in omega (arith, ints, same, y))
]

positive : (b : Bool) (d : ℤ) → pos 0 ≤ℤ d → pos 0 ≤ℤ cond b d (pos 0)
positive true d h = h
positive false d h = omega (arith, ints)

-- what is known of the breaks before break i
pub record IsReady (line : Line) (i : ℕ) (ready : ℤ) : Type 0 where
  pub in_time : (q : Plan) → IsSchedule line q → ready ≤ℤ break_start q i
  pub over : (q : Plan) → IsSchedule line q → (j : ℕ) → suc j ≡ i → break_end line q j ≤ℤ ready

module _ (line : Line) (sound : IsSound line) (hops : List Hop) (long : length hops ≡ length line.arcs)
    (visits : (k : ℕ) → k < length hops → (get_or hops k no_hop).visit ≡ (arc_at line k).visit)
    (transits : (k : ℕ) → k < length hops → (get_or hops k no_hop).transit ≡ (arc_at line k).transit)
    (cumuls : List ℤ) (settled : (q : Plan) → IsSchedule line q → q.cumuls ≡ cumuls) (i : ℕ) (there : i < length line.breaks)
    (low : pos 0 ≤ℤ (break_at line i).from) (ready : ℤ) (is_ready : IsReady line i ready) where
  abbrev firsts : ℕ → ℤ
  firsts = first_at hops cumuls (break_at line i) ready

  abbrev stands : ℕ → Bool
  stands = stands_at hops cumuls (break_at line i) ready

  module _ (q : Plan) (s : IsSchedule line q) where
    feasible_at : (p : ℕ) → firsts p ≤ℤ break_start q i → StandsAt line q i (firsts p) → IsFeasible (row_pinned line i (firsts p))
    feasible_at p le stands =
        let from : (break_at line i).from ≤ℤ firsts p = omega (arith, ints, clamps) in
        let behind : (j : ℕ) → suc j ≡ i → break_end line q j ≤ℤ firsts p = λ j e. let n = is_ready.over q s j e in omega (arith, ints, clamps, n) in (
          moved q i (firsts p),
          to_row_pinned line i (firsts p) there (moved q i (firsts p)) (moved_schedule line sound q s i there (firsts p) le from behind stands)
              (start_there line sound q s i there (firsts p) le from behind stands),
        )

    cumul_is : (k : ℕ) → number_at cumuls k ≡ cumul q k
    cumul_is k = ap (λ cs. number_at cs k) (sym (settled q s))

    long_is : (k : ℕ) → k < length line.arcs → IsTrue (is_inside line q i k) → (break_at line i).duration ≤ℤ slack q k
    long_is k lt t =
        let one : cond (is_inside line q i k) (break_at line i).duration (pos 0) ≤ℤ break_time line q k
        = one_of (λ j. cond (is_inside line q j k) (break_at line j).duration (pos 0)) 0 (length line.breaks) i
        (λ j from_j to_j. positive (is_inside line q j k) (break_at line j).duration
        (let d = sound.durations j (omega (arith, to_j)) in omega (arith, ints, d)))
        (omega arith) (omega (arith, there)) in
        let here : cond (is_inside line q i k) (break_at line i).duration (pos 0) ≡ (break_at line i).duration =
        ap (λ b. cond b (break_at line i).duration (pos 0)) t in
        let carried = s.slacks_carry_breaks k lt in
        omega (arith, ints, one, here, carried)

    -- some start that was tried is one of a schedule, and no later than that of the plan
    candidate : (p : ℕ) × (p < suc (suc (length hops))) × (firsts p ≤ℤ break_start q i) × IsTrue (stands p) × IsFeasible (row_pinned line i (firsts p))
    candidate = found (s.breaks_placed i there)
      where
        range : ((break_at line i).from ≤ℤ break_start q i) × (break_start q i ≤ℤ (break_at line i).to)
        range = s.breaks_in_range i there

        in_time : ready ≤ℤ break_start q i
        in_time = is_ready.in_time q s

        found : IsTrue (true && is_before line q i) ⊎ IsTrue (true && is_after line q i) ⊎ (k : ℕ) × (k < length line.arcs) × IsTrue (is_inside line q i k)
            → (p : ℕ) × (p < suc (suc (length hops))) × (firsts p ≤ℤ break_start q i) × IsTrue (stands p) × IsFeasible (row_pinned line i (firsts p))
        found (inl t) =
            let le : firsts 0 ≤ℤ break_start q i = omega (arith, ints, clamps, range, in_time, low) in
            let before = le_of_test (break_end line q i) (cumul q 0) t in
            let here = cumul_is 0 in
            let may : IsTrue (stands 0) = test_of_le (firsts 0 +ℤ (break_at line i).duration) (number_at cumuls 0) (omega (arith, ints, le, before, here)) in
            (0, omega arith, le, may, feasible_at 0 le (inl t))
        found (inr (inl t)) =
            let n = length hops in
            let begin : place_begin hops cumuls (suc n) ≡ number_at cumuls n =
            ap (λ b. if b then number_at cumuls n +ℤ (get_or hops n no_hop).visit else number_at cumuls n) (not_below_itself n) in
            let here : number_at cumuls n ≡ cumul q (length line.arcs) = cumul_is n ∙ ap (cumul q) long in
            let after = le_of_test (cumul q (length line.arcs)) (break_start q i) t in
            let le : firsts (suc n) ≤ℤ break_start q i = omega (arith, ints, clamps, range, in_time, begin, here, after) in
            let d = (break_at line i).duration in
            let may : IsTrue (stands (suc n)) = ap (λ b. if b then int_le (firsts (suc n) +ℤ d) (number_at cumuls (suc n))
            && int_le (number_at cumuls n +ℤ (get_or hops n no_hop).transit) (number_at cumuls (suc n) -ℤ d) else true) (not_below_itself n) in
            (suc n, omega arith, le, may, feasible_at (suc n) le (inr (inl (t, omega (arith, ints, clamps, begin, here)))))
        found (inr (inr (k, lt, t))) =
            let inside : k < length hops = omega (arith, lt, long) in
            let begin : place_begin hops cumuls (suc k) ≡ number_at cumuls k +ℤ (get_or hops k no_hop).visit =
            ap (λ b. if b then number_at cumuls k +ℤ (get_or hops k no_hop).visit else number_at cumuls (length hops)) (is_below k (length hops) inside) in
            let here = cumul_is k in
            let next = cumul_is (suc k) in
            let visit = visits k inside in
            let after = le_of_test (cumul q k +ℤ (arc_at line k).visit) (break_start q i)
            (and_left (int_le (cumul q k +ℤ (arc_at line k).visit) (break_start q i)) _ t) in
            let before = le_of_test (break_end line q i) (cumul q (suc k)) (and_right (int_le (cumul q k +ℤ (arc_at line k).visit) (break_start q i)) _ t) in
            let le : firsts (suc k) ≤ℤ break_start q i = omega (arith, ints, clamps, range, in_time, begin, here, visit, after) in
            let d = (break_at line i).duration in
            let enough = long_is k lt t in
            let left = s.slacks_left k lt in
            let transit = transits k inside in
            let may : IsTrue (stands (suc k)) = ap (λ b. if b then int_le (firsts (suc k) +ℤ d) (number_at cumuls (suc k))
            && int_le (number_at cumuls k +ℤ (get_or hops k no_hop).transit) (number_at cumuls (suc k) -ℤ d) else true) (is_below k (length hops) inside)
            ∙ and_both (int_le (firsts (suc k) +ℤ d) (number_at cumuls (suc k))) _
            (test_of_le (firsts (suc k) +ℤ d) (number_at cumuls (suc k)) (omega (arith, ints, le, before, next)))
            (test_of_le (number_at cumuls k +ℤ (get_or hops k no_hop).transit)
            (number_at cumuls (suc k) -ℤ d) (omega (arith, ints, here, next, enough, left, transit))) in
            (suc k, omega (arith, inside), le, may, feasible_at (suc k) le (inr (inr (k, lt, t, omega (arith, ints, clamps, begin, here, visit)))))

    upper : break_start q i ≤ℤ (break_at line i).to
    upper = (s.breaks_in_range i there).1

  -- no schedule has a lesser start
  pub least_of_tried : (x : ℤ) → IsLeastTried line i (break_at line i).to firsts stands (suc (suc (length hops))) (Some x)
      → (q : Plan) → IsSchedule line q → x ≤ℤ break_start q i
  least_of_tried x least q s =
      let c = candidate q s in
      let up = upper q s in
      let low = c.2 in
      let le = least.3 c.0 c.1 (omega (arith, ints, low, up)) c.3 c.4 in
      omega (arith, ints, le, low)

  -- where no start could be had there is no schedule
  pub none_of_tried : IsLeastTried line i (break_at line i).to firsts stands (suc (suc (length hops))) None → IsFeasible line → ⊥
  none_of_tried none (q, s) =
      let c = candidate q s in
      let up = upper q s in
      let low = c.2 in
      none c.0 c.1 (omega (arith, ints, low, up)) c.3 c.4
