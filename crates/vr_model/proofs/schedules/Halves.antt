-- A schedule, cut at a stop: its front and its back.
use Rattle.std.proofs.Common.{◌≡◌, ℕ, suc, ◌+◌, ◌-◌, ◌<◌, ◌≤◌, Bool, true, false, cond, ◌&&◌, length, take, drop, min, sym, ◌∙◌, ap, subst, inl, inr, arith}
use Rattle.std.proofs.Common.{◌⊎◌}
use Rattle.std.specs.Prelude.{ℤ, pos, ◌+ℤ◌, ◌-ℤ◌, ◌≤ℤ◌, int_le, IsTrue, EachIndex}
use Rattle.std.proofs.lemmas.Int.{ints}
use Rattle.std.proofs.lemmas.Bool.{cases_lt}
use Rattle.std.proofs.lemmas.List.{get_or-take, get_or-drop, length-take, length-drop}
use Rattle.vr_model.specs.schedules.Lines.{Line, Arc}
use Rattle.vr_model.specs.schedules.Schedules.{Plan, sides, KeepsRules, front, back, cumul, slack, allows, arc_at, break_at, break_start, break_end, is_before}
use Rattle.vr_model.specs.schedules.Schedules.{is_after, is_inside, break_time}
use Rattle.vr_model.specs.declared.records.BreakRow.{BreakRow}
use Rattle.vr_model.specs.schedules.SoundLines.{IsSound}
use Rattle.vr_model.specs.deciding.Testing.{and_right, le_of_test, test_of_le}
use Rattle.vr_model.proofs.tables.Totals.{sum_range, sum_same, sum_split, sum_shift, sum_not_negative}
use Rattle.vr_model.proofs.schedules.LineParts.{split_point, allows_front, arc_front, break_front, allows_back, arc_back, break_back, arcs_front, stops_front}
use Rattle.vr_model.proofs.schedules.LineParts.{breaks_front, arcs_back, stops_back, breaks_back, ascends_to, starts_ascend, inside_starts, inside_ends}

abbrev pub front_plan : Plan → ℕ → ℕ → Plan
front_plan plan k b = record { cumuls = take (suc k) plan.cumuls; slacks = take k plan.slacks; breaks = take b plan.breaks }

abbrev pub back_plan : Plan → ℕ → ℕ → Plan
back_plan plan k b = record { cumuls = drop k plan.cumuls; slacks = drop k plan.slacks; breaks = drop b plan.breaks }

-- a test of five numbers and rows: a break inside an arc
abbrev pub inside_of : ℤ → Arc → ℤ → BreakRow → ℤ → Bool
inside_of here arc z row next = int_le (here +ℤ arc.visit) z && int_le (z +ℤ row.duration) next

abbrev pub time_of : Bool → BreakRow → ℤ
time_of b row = cond b row.duration (pos 0)

module _ (line : Line) (plan : Plan) (k b : ℕ) where
  pub cumul_front : (i : ℕ) → i < suc k → cumul (front_plan plan k b) i ≡ cumul plan i
  cumul_front i h = get_or-take (suc k) plan.cumuls i (pos 0) h

  slack_front : (i : ℕ) → i < k → slack (front_plan plan k b) i ≡ slack plan i
  slack_front i h = get_or-take k plan.slacks i (pos 0) h

  starts_front : (i : ℕ) → i < b → break_start (front_plan plan k b) i ≡ break_start plan i
  starts_front i h = get_or-take b plan.breaks i (pos 0) h

  ends_front : (i : ℕ) → i < b → break_end (front line k b) (front_plan plan k b) i ≡ break_end line plan i
  ends_front i h = λ t. starts_front i h t +ℤ (break_front line k b i h t).duration

  inside_front : (i j : ℕ) → i < b → j < k → is_inside (front line k b) (front_plan plan k b) i j ≡ is_inside line plan i j
  inside_front i j hi hj = λ t. inside_of (cumul_front j (omega (arith, hj)) t) (arc_front line k b j hj t)
      (starts_front i hi t) (break_front line k b i hi t) (cumul_front (suc j) (omega (arith, hj)) t)

  pub cumul_back : (i : ℕ) → cumul (back_plan plan k b) i ≡ cumul plan (k + i)
  cumul_back i = get_or-drop k plan.cumuls i (pos 0)

  slack_back : (i : ℕ) → slack (back_plan plan k b) i ≡ slack plan (k + i)
  slack_back i = get_or-drop k plan.slacks i (pos 0)

  starts_back : (i : ℕ) → break_start (back_plan plan k b) i ≡ break_start plan (b + i)
  starts_back i = get_or-drop b plan.breaks i (pos 0)

  next_back : (i : ℕ) → cumul (back_plan plan k b) (suc i) ≡ cumul plan (suc (k + i))
  next_back i = let e : k + suc i ≡ suc (k + i) = omega arith in cumul_back (suc i) ∙ ap (cumul plan) e

  ends_back : (i : ℕ) → break_end (back line k b) (back_plan plan k b) i ≡ break_end line plan (b + i)
  ends_back i = λ t. starts_back i t +ℤ (break_back line k b i t).duration

  inside_back : (i j : ℕ) → is_inside (back line k b) (back_plan plan k b) i j ≡ is_inside line plan (b + i) (k + j)
  inside_back i j = λ t. inside_of (cumul_back j t) (arc_back line k b j t) (starts_back i t) (break_back line k b i t) (next_back j t)

-- the time of one break inside an arc
abbrev pub one_time : Line → Plan → ℕ → ℕ → ℤ
one_time line plan j i = time_of (is_inside line plan i j) (break_at line i)

one_time_not_negative : (line : Line) (plan : Plan) (j i : ℕ) → IsSound line → i < length line.breaks → pos 0 ≤ℤ one_time line plan j i
one_time_not_negative line plan j i sound h = go (is_inside line plan i j)
  where
    go : (b : Bool) → pos 0 ≤ℤ time_of b (break_at line i)
    go true = let d = sound.durations i h in omega (arith, ints, d)
    go false = omega (arith, ints)

module _ (before after : Bool) (line : Line) (plan : Plan) (sound : IsSound line)
    (s : KeepsRules (sides before after) line plan) (k : ℕ) (in_line : k ≤ length line.arcs) where
  -- the breaks that end at or before stop k are the first b
  abbrev ends_by : ℕ → Bool
  ends_by i = int_le (break_end line plan i) (cumul plan k)

  late_first : (i : ℕ) → i < length line.breaks → ends_by i ≡ false → cumul plan k ≤ℤ break_start plan i
  late_first i h e = go (s.breaks_placed i h)
    where
      forward : EachIndex line.arcs (λ k. pos 0 ≤ℤ (arc_at line k).transit)
      forward = sound.forward (omega (arith, h))

      not_by : (x : ℤ) → break_end line plan i ≤ℤ x → x ≤ℤ cumul plan k → ⊥
      not_by x low high = let t : ends_by i ≡ true = test_of_le (break_end line plan i) (cumul plan k) (omega (arith, ints, low, high)) in clash (ends_by i) t e
        where
          clash : (b : Bool) → b ≡ true → b ≡ false → ⊥
          clash b t f = Prim.cc

      go : IsTrue (before && is_before line plan i) ⊎ IsTrue (after && is_after line plan i)
          ⊎ (j : ℕ) × (j < length line.arcs) × IsTrue (is_inside line plan i j) → cumul plan k ≤ℤ break_start plan i
      go (inl t) = absurd (not_by (cumul plan 0) (le_of_test (break_end line plan i) (cumul plan 0) (and_right before _ t))
          (ascends_to before after line plan s forward 0 k (omega arith) in_line))
      go (inr (inl t)) =
          let a = le_of_test (cumul plan (length line.arcs)) (break_start plan i) (and_right after _ t) in
          let c = ascends_to before after line plan s forward k (length line.arcs) in_line (omega arith) in
          omega (arith, ints, a, c)
      go (inr (inr r)) = elim (cases_lt r.0 k) [
        | inl l ↦ absurd
            (not_by (cumul plan (suc r.0)) (inside_ends before after line plan s i r.0 r.2) (ascends_to before after line plan s forward (suc r.0) k l in_line))
        | inr l ↦ (let a = inside_starts before after line plan s i r.0 r.2 in let v = sound.visits r.0 r.1 in
            let c = ascends_to before after line plan s forward k r.0 l (omega (arith, r.1)) in omega (arith, ints, a, v, c))
      ]

  module _ (b : ℕ) (few : b ≤ length line.breaks) (early : (i : ℕ) → i < b → IsTrue (ends_by i)) (stops : b < length line.breaks → ends_by b ≡ false) where
    late : (i : ℕ) → b + i < length line.breaks → cumul plan k ≤ℤ break_start plan (b + i)
    late i h = let f = late_first b (omega (arith, h)) (stops (omega (arith, h))) in
        let c = starts_ascend before after line plan s sound.durations i b h in omega (arith, ints, f, c)

    early_ends : (i : ℕ) → i < b → break_end line plan i ≤ℤ cumul plan k
    early_ends i h = le_of_test _ _ (early i h)

    duration : (i : ℕ) → i < length line.breaks → pos 1 ≤ℤ (break_at line i).duration
    duration = sound.durations

    -- ---- the front keeps the rules
    front_placed : (i : ℕ) → i < b
        → IsTrue (before && is_before (front line k b) (front_plan plan k b) i) ⊎ IsTrue (false && is_after (front line k b) (front_plan plan k b) i)
        ⊎ (j : ℕ) × (j < length (front line k b).arcs) × IsTrue (is_inside (front line k b) (front_plan plan k b) i j)
    front_placed i h = go (s.breaks_placed i (omega (arith, h, few)))
      where
        forward : EachIndex line.arcs (λ k. pos 0 ≤ℤ (arc_at line k).transit)
        forward = sound.forward (omega (arith, h, few))

        go : IsTrue (before && is_before line plan i) ⊎ IsTrue (after && is_after line plan i)
            ⊎ (j : ℕ) × (j < length line.arcs) × IsTrue (is_inside line plan i j)
            → IsTrue (before && is_before (front line k b) (front_plan plan k b) i) ⊎ IsTrue (false && is_after (front line k b) (front_plan plan k b) i)
            ⊎ (j : ℕ) × (j < length (front line k b).arcs) × IsTrue (is_inside (front line k b) (front_plan plan k b) i j)
        go (inl t) = inl ((λ p. before && int_le (ends_front line plan k b i h p) (cumul_front line plan k b 0 (omega arith) p)) ∙ t)
        go (inr (inl t)) = absurd (let a = le_of_test (cumul plan (length line.arcs)) (break_start plan i) (and_right after _ t) in
            let c = ascends_to before after line plan s forward k (length line.arcs) in_line (omega arith) in
            let e = early_ends i h in let d = duration i (omega (arith, h, few)) in omega (arith, ints, a, c, e, d))
        go (inr (inr r)) = elim (cases_lt r.0 k) [
          | inl l ↦ inr (inr (r.0, (let e = arcs_front line k b in_line in omega (arith, l, e)), inside_front line plan k b i r.0 h l ∙ r.2))
          | inr l ↦ absurd (let a = inside_starts before after line plan s i r.0 r.2 in let v = sound.visits r.0 r.1 in
              let c = ascends_to before after line plan s forward k r.0 l (omega (arith, r.1)) in
              let e = early_ends i h in let d = duration i (omega (arith, h, few)) in omega (arith, ints, a, v, c, e, d))
        ]

    front_time : (j : ℕ) → j < k → break_time (front line k b) (front_plan plan k b) j ≤ℤ break_time line plan j
    front_time j h =
        let n : length (front line k b).breaks ≡ b = breaks_front line k b few in
        let e : break_time (front line k b) (front_plan plan k b) j ≡ sum_range (one_time line plan j) 0 b =
        ap (λ m. sum_range (one_time (front line k b) (front_plan plan k b) j) 0 m) n
        ∙ sum_same (one_time (front line k b) (front_plan plan k b) j) (one_time line plan j) 0 b (λ i low high.
        let hi : i < b = omega (arith, high) in λ t. time_of (inside_front line plan k b i j hi h t) (break_front line k b i hi t)) in
        let m : length line.breaks ≡ b + (length line.breaks - b) = omega (arith, few) in
        let f : break_time line plan j ≡ sum_range (one_time line plan j) 0 b +ℤ sum_range (one_time line plan j) (0 + b) (length line.breaks - b) =
        ap (λ m. sum_range (one_time line plan j) 0 m) m ∙ sum_split (one_time line plan j) 0 b (length line.breaks - b) in
        let g = sum_not_negative (one_time line plan j) (0 + b) (length line.breaks - b)
        (λ i low high. one_time_not_negative line plan j i sound (omega (arith, high, few))) in
        omega (arith, ints, e, f, g)

    front_rules : KeepsRules (sides before false) (front line k b) (front_plan plan k b)
    front_rules = record {
      cumul_of_each_stop = length-take (suc k) plan.cumuls ∙ (ap (min (suc k)) s.cumul_of_each_stop ∙ sym (length-take (suc k) line.allowed));
      slack_of_each_arc = length-take k plan.slacks ∙ (ap (min k) s.slack_of_each_arc ∙ sym (length-take k line.arcs));
      start_of_each_break = length-take b plan.breaks ∙ (ap (min b) s.start_of_each_break ∙ sym (length-take b line.breaks));
      cumuls_allowed = λ i h. let hi : i < suc k = (let e = stops_front line k b (let n = sound.stops in omega (arith, n, in_line)) in omega (arith, h, e)) in
          allows_front line k b i (cumul (front_plan plan k b) i) hi
          ∙ (ap (allows line i) (cumul_front line plan k b i hi) ∙ s.cumuls_allowed i (let n = sound.stops in omega (arith, n, hi, in_line)));
      slacks_left = λ i h. let hi : i < k = at_arc i h in slack_front line plan k b i hi ∙ (s.slacks_left i (omega (arith, hi, in_line))
          ∙ sym (λ t. (cumul_front line plan k b (suc i) (omega (arith, hi)) t -ℤ cumul_front line plan k b i (omega (arith, hi)) t)
          -ℤ (arc_front line k b i hi t).transit));
      slacks_bounded = λ i h. let hi : i < k = at_arc i h in let e = slack_front line plan k b i hi in
          let r = s.slacks_bounded i (omega (arith, hi, in_line)) in (omega (arith, ints, e, r.0), omega (arith, ints, e, r.1));
      breaks_in_range = λ i h. let hi : i < b = at_break i h in let e = starts_front line plan k b i hi in
          let r = s.breaks_in_range i (omega (arith, hi, few)) in (
            subst (λ row. row.from ≤ℤ break_start (front_plan plan k b) i) (sym (break_front line k b i hi)) (omega (arith, ints, e, r.0)),
            subst (λ row. break_start (front_plan plan k b) i ≤ℤ row.to) (sym (break_front line k b i hi)) (omega (arith, ints, e, r.1)),
          );
      breaks_in_order = λ i h. let hi : suc i < b = at_break (suc i) h in
          let e = ends_front line plan k b i (omega (arith, hi)) in let f = starts_front line plan k b (suc i) hi in
          let o = s.breaks_in_order i (omega (arith, hi, few)) in omega (arith, ints, e, f, o);
      breaks_placed = λ i h. front_placed i (at_break i h);
      slacks_carry_breaks = λ i h. let hi : i < k = at_arc i h in let t = front_time i hi in let e = slack_front line plan k b i hi in
          let c = s.slacks_carry_breaks i (omega (arith, hi, in_line)) in omega (arith, ints, t, e, c);
    }
      where
        at_arc : (i : ℕ) → i < length (front line k b).arcs → i < k
        at_arc i h = let e = arcs_front line k b in_line in omega (arith, h, e)

        at_break : (i : ℕ) → i < length (front line k b).breaks → i < b
        at_break i h = let e = breaks_front line k b few in omega (arith, h, e)

    -- ---- the back keeps the rules
    back_placed : (i : ℕ) → b + i < length line.breaks
        → IsTrue (false && is_before (back line k b) (back_plan plan k b) i) ⊎ IsTrue (after && is_after (back line k b) (back_plan plan k b) i)
        ⊎ (j : ℕ) × (j < length (back line k b).arcs) × IsTrue (is_inside (back line k b) (back_plan plan k b) i j)
    back_placed i h = go (s.breaks_placed (b + i) h)
      where
        forward : EachIndex line.arcs (λ k. pos 0 ≤ℤ (arc_at line k).transit)
        forward = sound.forward (omega (arith, h))

        last : cumul (back_plan plan k b) (length (back line k b).arcs) ≡ cumul plan (length line.arcs)
        last =
            let e : k + length (back line k b).arcs ≡ length line.arcs = (let n = arcs_back line k b in omega (arith, n, in_line)) in
            cumul_back line plan k b (length (back line k b).arcs) ∙ ap (cumul plan) e

        go : IsTrue (before && is_before line plan (b + i)) ⊎ IsTrue (after && is_after line plan (b + i))
            ⊎ (j : ℕ) × (j < length line.arcs) × IsTrue (is_inside line plan (b + i) j)
            → IsTrue (false && is_before (back line k b) (back_plan plan k b) i) ⊎ IsTrue (after && is_after (back line k b) (back_plan plan k b) i)
            ⊎ (j : ℕ) × (j < length (back line k b).arcs) × IsTrue (is_inside (back line k b) (back_plan plan k b) i j)
        go (inl t) = absurd (let a = le_of_test (break_end line plan (b + i)) (cumul plan 0) (and_right before _ t) in
            let c = ascends_to before after line plan s forward 0 k (omega arith) in_line in
            let e = late i h in let d = duration (b + i) h in omega (arith, ints, a, c, e, d))
        go (inr (inl t)) = inr (inl ((λ p. after && int_le (last p) (starts_back line plan k b i p)) ∙ t))
        go (inr (inr r)) = elim (cases_lt r.0 k) [
          | inl l ↦ absurd (let a = inside_ends before after line plan s (b + i) r.0 r.2 in
              let c = ascends_to before after line plan s forward (suc r.0) k l in_line in
              let e = late i h in let d = duration (b + i) h in omega (arith, ints, a, c, e, d))
          | inr l ↦ (let e : k + (r.0 - k) ≡ r.0 = omega (arith, l) in
              inr (inr (
                r.0 - k,
                (let n = arcs_back line k b in let m = r.1 in omega (arith, l, n, m)),
                inside_back line plan k b i (r.0 - k) ∙ (ap (is_inside line plan (b + i)) e ∙ r.2),
              )))
        ]

    back_time : (j : ℕ) → break_time (back line k b) (back_plan plan k b) j ≤ℤ break_time line plan (k + j)
    back_time j =
        let n : length (back line k b).breaks ≡ length line.breaks - b = breaks_back line k b in
        let e : break_time (back line k b) (back_plan plan k b) j ≡ sum_range (λ i. one_time line plan (k + j) (b + i)) 0 (length line.breaks - b) =
        ap (λ m. sum_range (one_time (back line k b) (back_plan plan k b) j) 0 m) n
        ∙ sum_same (one_time (back line k b) (back_plan plan k b) j) (λ i. one_time line plan (k + j) (b + i)) 0
        (length line.breaks - b) (λ i low high. λ t. time_of (inside_back line plan k b i j t) (break_back line k b i t)) in
        let h : sum_range (one_time line plan (k + j)) (b + 0) (length line.breaks - b)
        ≡ sum_range (λ i. one_time line plan (k + j) (b + i)) 0 (length line.breaks - b) = sum_shift (one_time line plan (k + j))
        b 0 (length line.breaks - b) in
        let z : 0 + b ≡ b + 0 = omega arith in
        let m : length line.breaks ≡ b + (length line.breaks - b) = omega (arith, few) in
        let f : break_time line plan (k + j)
        ≡ sum_range (one_time line plan (k + j)) 0 b +ℤ sum_range (one_time line plan (k + j)) (b + 0) (length line.breaks - b) =
        ap (λ m. sum_range (one_time line plan (k + j)) 0 m) m ∙ (sum_split (one_time line plan (k + j)) 0 b (length line.breaks - b)
        ∙ ap (λ c. sum_range (one_time line plan (k + j)) 0 b +ℤ sum_range (one_time line plan (k + j)) c (length line.breaks - b)) z) in
        let g = sum_not_negative (one_time line plan (k + j)) 0 b (λ i low high. one_time_not_negative line plan (k + j) i sound (omega (arith, high, few))) in
        omega (arith, ints, e, f, g, h)

    back_rules : KeepsRules (sides false after) (back line k b) (back_plan plan k b)
    back_rules = record {
      cumul_of_each_stop = length-drop k plan.cumuls ∙ (ap (λ n. n - k) s.cumul_of_each_stop ∙ sym (length-drop k line.allowed));
      slack_of_each_arc = length-drop k plan.slacks ∙ (ap (λ n. n - k) s.slack_of_each_arc ∙ sym (length-drop k line.arcs));
      start_of_each_break = length-drop b plan.breaks ∙ (ap (λ n. n - b) s.start_of_each_break ∙ sym (length-drop b line.breaks));
      cumuls_allowed = λ i h. allows_back line k b i (cumul (back_plan plan k b) i)
          ∙ (ap (allows line (k + i)) (cumul_back line plan k b i) ∙ s.cumuls_allowed (k + i) (let e = stops_back line k b in omega (arith, h, e)));
      slacks_left = λ i h. slack_back line plan k b i ∙ (s.slacks_left (k + i) (at_arc i h)
          ∙ sym (λ t. (next_back line plan k b i t -ℤ cumul_back line plan k b i t) -ℤ (arc_back line k b i t).transit));
      slacks_bounded = λ i h. let e = slack_back line plan k b i in
          let r = s.slacks_bounded (k + i) (at_arc i h) in (omega (arith, ints, e, r.0), omega (arith, ints, e, r.1));
      breaks_in_range = λ i h. let e = starts_back line plan k b i in let r = s.breaks_in_range (b + i) (at_break i h) in (
        subst (λ row. row.from ≤ℤ break_start (back_plan plan k b) i) (sym (break_back line k b i)) (omega (arith, ints, e, r.0)),
        subst (λ row. break_start (back_plan plan k b) i ≤ℤ row.to) (sym (break_back line k b i)) (omega (arith, ints, e, r.1)),
      );
      breaks_in_order = λ i h. let n : b + suc i ≡ suc (b + i) = omega arith in
          let e = ends_back line plan k b i in let f = starts_back line plan k b (suc i) ∙ ap (break_start plan) n in
          let o = s.breaks_in_order (b + i) (let l = at_break (suc i) h in omega (arith, l)) in omega (arith, ints, e, f, o);
      breaks_placed = λ i h. back_placed i (at_break i h);
      slacks_carry_breaks = λ i h. let t = back_time i in let e = slack_back line plan k b i in
          let c = s.slacks_carry_breaks (k + i) (at_arc i h) in omega (arith, ints, t, e, c);
    }
      where
        at_arc : (i : ℕ) → i < length (back line k b).arcs → k + i < length line.arcs
        at_arc i h = let e = arcs_back line k b in omega (arith, h, e)

        at_break : (i : ℕ) → i < length (back line k b).breaks → b + i < length line.breaks
        at_break i h = let e = breaks_back line k b in omega (arith, h, e)

    here : cumul (back_plan plan k b) 0 ≡ cumul plan k
    here = let e : k + 0 ≡ k = omega arith in cumul_back line plan k b 0 ∙ ap (cumul plan) e

  -- a plan passes stop k at a cumul that its front reaches with some number of breaks, and from which its back goes on with the others
  pub halves : (b : ℕ) × (b ≤ length line.breaks) × ((p : Plan) × KeepsRules (sides before false) (front line k b) p × (cumul p k ≡ cumul plan k))
      × ((q : Plan) × KeepsRules (sides false after) (back line k b) q × (cumul q 0 ≡ cumul plan k))
  halves = let r = split_point ends_by (length line.breaks) in (
    r.0,
    r.1,
    (front_plan plan k r.0, front_rules r.0 r.1 r.2 r.3, cumul_front line plan k r.0 k (omega arith)),
    (back_plan plan k r.0, back_rules r.0 r.1 r.2 r.3, here r.0 r.1 r.2 r.3),
  )

  -- the same, with the two plans named
  pub halves_of : (b : ℕ) × (b ≤ length line.breaks) × KeepsRules (sides before false) (front line k b) (front_plan plan k b)
      × KeepsRules (sides false after) (back line k b) (back_plan plan k b)
  halves_of = let r = split_point ends_by (length line.breaks) in (r.0, r.1, front_rules r.0 r.1 r.2 r.3, back_rules r.0 r.1 r.2 r.3)
