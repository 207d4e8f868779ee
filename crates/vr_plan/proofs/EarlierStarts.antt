-- A break of a schedule may start earlier in its place.
use Rattle.std.proofs.Common.{◌≡◌, ℕ, zero, suc, ◌+◌, ◌<◌, ◌≢◌, ◌≤◌, true, false, Bool, cond, ◌&&◌, length, set, ℤ, pos, ◌+ℤ◌, ◌≤ℤ◌, ◌⊎◌, inl, inr, refl, sym}
use Rattle.std.proofs.Common.{subst, ap, ◌∙◌, arith}
use Rattle.std.specs.Prelude.{IsTrue, EachIndex, int_le}
use Rattle.std.specs.List.{range_with_len}
use Rattle.std.proofs.lemmas.Int.{ints}
use Rattle.std.proofs.lemmas.Bool.{cases_lt}
use Rattle.std.proofs.lemmas.List.{length-set, get_or-set_same, get_or-set_other}
use Rattle.vr_model.specs.tables.Numbers.{total_by}
use Rattle.vr_model.specs.deciding.Testing.{and_left, and_right, and_both, le_of_test, test_of_le}
use Rattle.vr_model.specs.schedules.Lines.{Line}
use Rattle.vr_model.specs.schedules.Schedules.{Plan, IsSchedule, cumul, break_at, break_start, break_end, is_before, is_after, is_inside, break_time, arc_at}
use Rattle.vr_model.specs.schedules.SoundLines.{IsSound}
use Rattle.vr_model.proofs.schedules.LineParts.{ascends_to}

-- the plan whose break i starts at e
abbrev pub moved : Plan → ℕ → ℤ → Plan
moved plan i e = record plan { breaks = set plan.breaks i e }

sum_le : (f g : ℕ → ℤ) (a n : ℕ) → ((j : ℕ) → a ≤ j → j < a + n → f j ≤ℤ g j) → total_by f (range_with_len a n) ≤ℤ total_by g (range_with_len a n)
sum_le f g a zero h = omega (arith, ints)
sum_le f g a (suc n) h =
    let x = h a (omega arith) (omega arith) in
    let y = sum_le f g (a + 1) n (λ j low high. h j (omega arith) (omega arith)) in omega (arith, ints, x, y)

cond_le : (b c : Bool) (d : ℤ) → pos 0 ≤ℤ d → (IsTrue b → IsTrue c) → cond b d (pos 0) ≤ℤ cond c d (pos 0)
cond_le true true d h imp = omega (arith, ints)
cond_le true false d h imp = absurd (let f : false ≡ true → ⊥ = λ e. cc in f (imp refl))
cond_le false true d h imp = h
cond_le false false d h imp = omega (arith, ints)

-- where break i of a plan stands, with a start that is no earlier than its place
abbrev pub StandsAt : Line → Plan → ℕ → ℤ → Type 0
StandsAt line plan i e = IsTrue (is_before line plan i)
    ⊎ (IsTrue (is_after line plan i) × (cumul plan (length line.arcs) ≤ℤ e))
    ⊎ ((k : ℕ) × (k < length line.arcs) × IsTrue (is_inside line plan i k) × ((cumul plan k +ℤ (arc_at line k).visit) ≤ℤ e))

module _ (line : Line) (sound : IsSound line) (plan : Plan) (s : IsSchedule line plan) (i : ℕ)
    (there : i < length line.breaks) (e : ℤ) (earlier : e ≤ℤ break_start plan i) (from : (break_at line i).from ≤ℤ e)
    (behind : (j : ℕ) → suc j ≡ i → break_end line plan j ≤ℤ e) (stands : StandsAt line plan i e) where
  in_starts : i < length plan.breaks
  in_starts = let n = s.start_of_each_break in omega (arith, there, n)

  start_other : (j : ℕ) → j ≢ i → break_start (moved plan i e) j ≡ break_start plan j
  start_other j h = get_or-set_other plan.breaks i j e (pos 0) h

  pub start_there : break_start (moved plan i e) i ≡ e
  start_there = get_or-set_same plan.breaks i e (pos 0) in_starts

  same_or_not : (P : ℕ → Type 0) → P i → ((j : ℕ) → j ≢ i → P j) → (j : ℕ) → P j
  same_or_not P here other j = elim (cases_lt j i) [
    | inl l ↦ other j (omega (arith, l))
    | inr l ↦ elim (cases_lt i j) [ inl m ↦ other j (omega (arith, m)) | inr m ↦ (let e : i ≡ j = omega (arith, l, m) in subst P e here) ]
  ]

  forward : EachIndex line.arcs (λ k. pos 0 ≤ℤ (arc_at line k).transit)
  forward = sound.forward (omega (arith, there))

  ascends : (j k : ℕ) → j ≤ k → k ≤ length line.arcs → cumul plan j ≤ℤ cumul plan k
  ascends j k low high = ascends_to true true line plan s forward j k low high

  -- where break i stands now inside an arc, it stood there before
  inside_there : (k : ℕ) → k < length line.arcs → IsTrue (is_inside line (moved plan i e) i k) → IsTrue (is_inside line plan i k)
  inside_there k lt now = stood stands
    where
      low : (cumul plan k +ℤ (arc_at line k).visit) ≤ℤ e
      low =
          let m = le_of_test (cumul plan k +ℤ (arc_at line k).visit) (break_start (moved plan i e) i)
          (and_left (int_le (cumul plan k +ℤ (arc_at line k).visit) (break_start (moved plan i e) i)) _ now) in
          let n = start_there in
          omega (arith, ints, m, n)

      high : (e +ℤ (break_at line i).duration) ≤ℤ cumul plan (suc k)
      high =
          let m = le_of_test (break_end line (moved plan i e) i) (cumul plan (suc k))
          (and_right (int_le (cumul plan k +ℤ (arc_at line k).visit) (break_start (moved plan i e) i)) _ now) in
          let n = start_there in
          omega (arith, ints, m, n)

      stood : StandsAt line plan i e → IsTrue (is_inside line plan i k)
      stood (inl t) = absurd (
          let over = le_of_test (break_end line plan i) (cumul plan 0) t in
          let up = ascends 0 k (omega arith) (omega (arith, lt)) in
          let v = sound.visits k lt in
          let d = sound.durations i there in
          omega (arith, ints, over, up, v, d, low, earlier))
      stood (inr (inl (t, after))) = absurd (
          let up = ascends (suc k) (length line.arcs) (omega (arith, lt)) (omega arith) in
          let d = sound.durations i there in
          omega (arith, ints, after, up, d, high))
      stood (inr (inr (j, lj, t, begin))) = elim (cases_lt k j) [
        | inl l ↦ absurd (
            let up = ascends (suc k) j (omega (arith, l)) (omega (arith, lj)) in
            let v = sound.visits j lj in
            let d = sound.durations i there in
            omega (arith, ints, up, v, d, begin, high))
        | inr l ↦ elim (cases_lt j k) [
          | inl m ↦ absurd (
              let over = le_of_test (break_end line plan i) (cumul plan (suc j))
              (and_right (int_le (cumul plan j +ℤ (arc_at line j).visit) (break_start plan i)) _ t) in
              let up = ascends (suc j) k (omega (arith, m)) (omega (arith, lt)) in
              let v = sound.visits k lt in
              let d = sound.durations i there in
              omega (arith, ints, over, up, v, d, low, earlier))
          | inr m ↦ (let same : j ≡ k = omega (arith, l, m) in subst (λ n. IsTrue (is_inside line plan i n)) same t)
        ]
      ]

  -- a break that stays stands where it stood
  inside_now : (j k : ℕ) → k < length line.arcs → IsTrue (is_inside line (moved plan i e) j k) → IsTrue (is_inside line plan j k)
  inside_now j k lt = same_or_not (λ j. IsTrue (is_inside line (moved plan i e) j k) → IsTrue (is_inside line plan j k)) (inside_there k lt)
      (λ j h now. subst (λ z. IsTrue (int_le (cumul plan k +ℤ (arc_at line k).visit) z && int_le (z +ℤ (break_at line j).duration) (cumul plan (suc k))))
      (start_other j h) now) j

  -- the plan with the earlier start is a schedule too
  pub moved_schedule : IsSchedule line (moved plan i e)
  moved_schedule = record {
    cumul_of_each_stop = s.cumul_of_each_stop;
    slack_of_each_arc = s.slack_of_each_arc;
    start_of_each_break = length-set plan.breaks i e ∙ s.start_of_each_break;
    cumuls_allowed = s.cumuls_allowed;
    slacks_left = s.slacks_left;
    slacks_bounded = s.slacks_bounded;
    breaks_in_range = in_range;
    breaks_in_order = in_order;
    breaks_placed = placed;
    slacks_carry_breaks = λ k lt. let before = s.slacks_carry_breaks k lt in let less = carried k lt in omega (arith, ints, before, less);
  }
    where
      in_range : (j : ℕ) → j < length line.breaks
          → ((break_at line j).from ≤ℤ break_start (moved plan i e) j) × (break_start (moved plan i e) j ≤ℤ (break_at line j).to)
      in_range = same_or_not
          (λ j. j < length line.breaks → ((break_at line j).from ≤ℤ break_start (moved plan i e) j) × (break_start (moved plan i e) j ≤ℤ (break_at line j).to))
          (λ lt. let m = s.breaks_in_range i there in let n = start_there in (omega (arith, ints, n, from), omega (arith, ints, n, m, earlier)))
          (λ j h lt. let m = s.breaks_in_range j lt in let n = start_other j h in (omega (arith, ints, n, m), omega (arith, ints, n, m)))

      in_order : (j : ℕ) → suc j < length line.breaks → break_end line (moved plan i e) j ≤ℤ break_start (moved plan i e) (suc j)
      in_order j lt = elim (cases_lt (suc j) i) [
        | inl l ↦ (let m = s.breaks_in_order j lt in
            let a = start_other j (omega (arith, l)) in
            let b = start_other (suc j) (omega (arith, l)) in
            omega (arith, ints, m, a, b))
        | inr l ↦ elim (cases_lt i (suc j)) [
          | inl k ↦ (
              let m = s.breaks_in_order j lt in
              let b = start_other (suc j) (omega (arith, k)) in
              let a = same_or_not (λ j. break_start (moved plan i e) j ≤ℤ break_start plan j)
              (let n = start_there in omega (arith, ints, n, earlier)) (λ j h. let n = start_other j h in omega (arith, ints, n)) j in
              omega (arith, ints, m, a, b))
          | inr k ↦ (
              let same : suc j ≡ i = omega (arith, l, k) in
              let m = behind j same in
              let a = start_other j (omega (arith, same)) in
              let b = ap (break_start (moved plan i e)) same ∙ start_there in
              omega (arith, ints, m, a, b))
        ]
      ]

      placed : EachIndex line.breaks (λ j. IsTrue (true && is_before line (moved plan i e) j)
          ⊎ IsTrue (true && is_after line (moved plan i e) j) ⊎ (k : ℕ) × (k < length line.arcs) × IsTrue (is_inside line (moved plan i e) j k))
      placed = same_or_not (λ j. j < length line.breaks → IsTrue (true && is_before line (moved plan i e) j)
          ⊎ IsTrue (true && is_after line (moved plan i e) j) ⊎ (k : ℕ) × (k < length line.arcs) × IsTrue (is_inside line (moved plan i e) j k))
          (λ lt. now stands)
          (λ j h lt. subst (λ z. IsTrue (int_le (z +ℤ (break_at line j).duration) (cumul plan 0))
          ⊎ IsTrue (int_le (cumul plan (length line.arcs)) z) ⊎ (k : ℕ) × (k < length line.arcs)
          × IsTrue (int_le (cumul plan k +ℤ (arc_at line k).visit) z && int_le (z +ℤ (break_at line j).duration) (cumul plan (suc k))))
          (sym (start_other j h)) (s.breaks_placed j lt))
        where
          now : StandsAt line plan i e → IsTrue (true && is_before line (moved plan i e) i) ⊎ IsTrue (true && is_after line (moved plan i e) i)
              ⊎ (k : ℕ) × (k < length line.arcs) × IsTrue (is_inside line (moved plan i e) i k)
          now (inl t) = inl (test_of_le (break_end line (moved plan i e) i) (cumul plan 0)
              (let m = le_of_test (break_end line plan i) (cumul plan 0) t in let n = start_there in omega (arith, ints, m, n, earlier)))
          now (inr (inl (t, after))) =
              inr (inl (test_of_le (cumul plan (length line.arcs)) (break_start (moved plan i e) i) (let n = start_there in omega (arith, ints, n, after))))
          now (inr (inr (k, lt, t, begin))) = inr (inr (
            k,
            lt,
            and_both (int_le (cumul plan k +ℤ (arc_at line k).visit) (break_start (moved plan i e) i)) _
                (test_of_le (cumul plan k +ℤ (arc_at line k).visit) (break_start (moved plan i e) i) (let n = start_there in omega (arith, ints, n, begin)))
                (test_of_le (break_end line (moved plan i e) i) (cumul plan (suc k))
                (let m = le_of_test (break_end line plan i) (cumul plan (suc k))
                (and_right (int_le (cumul plan k +ℤ (arc_at line k).visit) (break_start plan i)) _ t) in
                let n = start_there in omega (arith, ints, m, n, earlier))),
          ))

      carried : (k : ℕ) → k < length line.arcs → break_time line (moved plan i e) k ≤ℤ break_time line plan k
      carried k lt = sum_le (λ j. cond (is_inside line (moved plan i e) j k) (break_at line j).duration (pos 0))
          (λ j. cond (is_inside line plan j k) (break_at line j).duration (pos 0)) 0 (length line.breaks)
          (λ j low high. cond_le (is_inside line (moved plan i e) j k) (is_inside line plan j k) (break_at line j).duration
          (let d = sound.durations j (omega (arith, high)) in omega (arith, ints, d)) (inside_now j k lt))
