-- The least start of a break, put in: what is chosen then is chosen of the line too.
use Rattle.std.proofs.Common.{◌≡◌, ℕ, suc, ◌<◌, ◌≢◌, true, cond, ◌&&◌, List, [], ◌∷◌, ◌++◌, length, ℤ, pos, ◌+ℤ◌, ◌≤ℤ◌, ◌<ℤ◌, ◌⊎◌, inl, inr, sym, subst, ap}
use Rattle.std.proofs.Common.{ap₂, ◌∙◌, arith}
use Rattle.std.specs.Prelude.{IsTrue, int_le, int_lt}
use Rattle.std.proofs.lemmas.Int.{ints}
use Rattle.std.proofs.lemmas.Bool.{cases_lt}
use Rattle.std.proofs.lemmas.List.{length-set, get_or-set_same, get_or-set_other}
use Rattle.vr_model.specs.tables.Numbers.{below, total_by, is_lex_le}
use Rattle.vr_model.specs.deciding.Testing.{and_both, or_right, test_of_le}
use Rattle.vr_model.specs.schedules.Lines.{Line}
use Rattle.vr_model.specs.schedules.Schedules.{Plan, Sides, both_sides, KeepsRules, IsSchedule, IsChosen, cumul, break_at, break_start, break_end, is_before}
use Rattle.vr_model.specs.schedules.Schedules.{is_after, is_inside, break_time, arc_at, no_break}
use Rattle.vr_plan.specs.Narrow.{at_start, row_pinned}
use Rattle.vr_model.proofs.tables.Totals.{sum_same}
use Rattle.vr_model.proofs.schedules.Narrowing.{lex_less_at}

module _ (line : Line) (i : ℕ) (x : ℤ) (there : i < length line.breaks) where
  row_other : (j : ℕ) → j ≢ i → break_at (row_pinned line i x) j ≡ break_at line j
  row_other j h = get_or-set_other line.breaks i j (at_start (break_at line i) x) no_break h

  row_there : break_at (row_pinned line i x) i ≡ at_start (break_at line i) x
  row_there = get_or-set_same line.breaks i (at_start (break_at line i) x) no_break there

  same_number : length (row_pinned line i x).breaks ≡ length line.breaks
  same_number = length-set line.breaks i (at_start (break_at line i) x)

  same_or_not : (P : ℕ → Type 0) → P i → ((j : ℕ) → j ≢ i → P j) → (j : ℕ) → P j
  same_or_not P here other j = elim (cases_lt j i) [
    | inl l ↦ other j (omega (arith, l))
    | inr l ↦ elim (cases_lt i j) [ inl m ↦ other j (omega (arith, m)) | inr m ↦ (let e : i ≡ j = omega (arith, l, m) in subst P e here) ]
  ]

  pub same_duration : (j : ℕ) → (break_at (row_pinned line i x) j).duration ≡ (break_at line j).duration
  same_duration = same_or_not (λ j. (break_at (row_pinned line i x) j).duration ≡ (break_at line j).duration)
      (ap (λ r. r.duration) row_there) (λ j h. ap (λ r. r.duration) (row_other j h))

  module _ (plan : Plan) where
    same_end : (j : ℕ) → break_end (row_pinned line i x) plan j ≡ break_end line plan j
    same_end j = ap (λ d. break_start plan j +ℤ d) (same_duration j)

    same_inside : (j k : ℕ) → is_inside (row_pinned line i x) plan j k ≡ is_inside line plan j k
    same_inside j k = ap (λ e. int_le (cumul plan k +ℤ (arc_at line k).visit) (break_start plan j) && int_le e (cumul plan (suc k))) (same_end j)

    same_before : (j : ℕ) → is_before (row_pinned line i x) plan j ≡ is_before line plan j
    same_before j = ap (λ e. int_le e (cumul plan 0)) (same_end j)

    same_time : (k : ℕ) → break_time (row_pinned line i x) plan k ≡ break_time line plan k
    same_time k =
        let theirs : ℕ → ℤ = λ j. cond (is_inside (row_pinned line i x) plan j k) (break_at (row_pinned line i x) j).duration (pos 0) in
        let ours : ℕ → ℤ = λ j. cond (is_inside line plan j k) (break_at line j).duration (pos 0) in
        ap (λ n. total_by theirs (below n)) same_number
        ∙ sum_same theirs ours 0 (length line.breaks) (λ j low high. ap₂ (λ b d. cond b d (pos 0)) (same_inside j k) (same_duration j))

    -- a schedule whose break i starts at x is one of the pinned line
    pub to_row_pinned : IsSchedule line plan → break_start plan i ≡ x → IsSchedule (row_pinned line i x) plan
    to_row_pinned s e = record {
      cumul_of_each_stop = s.cumul_of_each_stop;
      slack_of_each_arc = s.slack_of_each_arc;
      start_of_each_break = s.start_of_each_break ∙ sym same_number;
      cumuls_allowed = s.cumuls_allowed;
      slacks_left = s.slacks_left;
      slacks_bounded = s.slacks_bounded;
      breaks_in_range = λ j lt. in_range j (let n = same_number in omega (arith, lt, n));
      breaks_in_order =
          λ j lt. subst (λ n. n ≤ℤ break_start plan (suc j)) (sym (same_end j)) (s.breaks_in_order j (let n = same_number in omega (arith, lt, n)));
      breaks_placed = λ j lt. placed j (s.breaks_placed j (let n = same_number in omega (arith, lt, n)));
      slacks_carry_breaks = λ k lt. subst (λ n. n ≤ℤ Rattle.vr_model.specs.schedules.Schedules.slack plan k) (sym (same_time k)) (s.slacks_carry_breaks k lt);
    }
      where
        in_range : (j : ℕ) → j < length line.breaks
            → ((break_at (row_pinned line i x) j).from ≤ℤ break_start plan j) × (break_start plan j ≤ℤ (break_at (row_pinned line i x) j).to)
        in_range = same_or_not (λ j. j < length line.breaks
            → ((break_at (row_pinned line i x) j).from ≤ℤ break_start plan j) × (break_start plan j ≤ℤ (break_at (row_pinned line i x) j).to))
            (λ lt. let from = ap (λ r. r.from) row_there in let to = ap (λ r. r.to) row_there in (omega (arith, ints, from, e), omega (arith, ints, to, e)))
            (λ j h lt. let m = s.breaks_in_range j lt in let from = ap (λ r. r.from) (row_other j h) in
            let to = ap (λ r. r.to) (row_other j h) in (omega (arith, ints, from, m), omega (arith, ints, to, m)))

        placed : (j : ℕ) → IsTrue (true && is_before line plan j) ⊎ IsTrue (true && is_after line plan j)
            ⊎ (k : ℕ) × (k < length line.arcs) × IsTrue (is_inside line plan j k)
            → IsTrue (true && is_before (row_pinned line i x) plan j) ⊎ IsTrue (true && is_after (row_pinned line i x) plan j)
            ⊎ (k : ℕ) × (k < length line.arcs) × IsTrue (is_inside (row_pinned line i x) plan j k)
        placed j (inl t) = inl (same_before j ∙ t)
        placed j (inr (inl t)) = inr (inl t)
        placed j (inr (inr m)) = inr (inr (m.0, m.1, same_inside j m.0 ∙ m.2))

    -- and the other way round, where x is in the range of the break
    pub of_row_pinned : (break_at line i).from ≤ℤ x → x ≤ℤ (break_at line i).to
        → IsSchedule (row_pinned line i x) plan → IsSchedule line plan × (break_start plan i ≡ x)
    of_row_pinned low high s = (
      record {
        cumul_of_each_stop = s.cumul_of_each_stop;
        slack_of_each_arc = s.slack_of_each_arc;
        start_of_each_break = s.start_of_each_break ∙ same_number;
        cumuls_allowed = s.cumuls_allowed;
        slacks_left = s.slacks_left;
        slacks_bounded = s.slacks_bounded;
        breaks_in_range = in_range;
        breaks_in_order = λ j lt. subst (λ n. n ≤ℤ break_start plan (suc j)) (same_end j) (s.breaks_in_order j (let n = same_number in omega (arith, lt, n)));
        breaks_placed = λ j lt. placed j (s.breaks_placed j (let n = same_number in omega (arith, lt, n)));
        slacks_carry_breaks = λ k lt. subst (λ n. n ≤ℤ Rattle.vr_model.specs.schedules.Schedules.slack plan k) (same_time k) (s.slacks_carry_breaks k lt);
      },
      here,
    )
      where
        here : break_start plan i ≡ x
        here =
            let m = s.breaks_in_range i (let n = same_number in omega (arith, there, n)) in
            let from = ap (λ r. r.from) row_there in
            let to = ap (λ r. r.to) row_there in
            omega (arith, ints, from, to, m)

        in_range : (j : ℕ) → j < length line.breaks → ((break_at line j).from ≤ℤ break_start plan j) × (break_start plan j ≤ℤ (break_at line j).to)
        in_range = same_or_not (λ j. j < length line.breaks → ((break_at line j).from ≤ℤ break_start plan j) × (break_start plan j ≤ℤ (break_at line j).to))
            (λ lt. (omega (arith, ints, here, low), omega (arith, ints, here, high)))
            (λ j h lt. let m = s.breaks_in_range j (let n = same_number in omega (arith, lt, n)) in let from = ap (λ r. r.from) (row_other j h) in
            let to = ap (λ r. r.to) (row_other j h) in (omega (arith, ints, from, m), omega (arith, ints, to, m)))

        placed : (j : ℕ) → IsTrue (true && is_before (row_pinned line i x) plan j) ⊎ IsTrue (true && is_after (row_pinned line i x) plan j)
            ⊎ (k : ℕ) × (k < length line.arcs) × IsTrue (is_inside (row_pinned line i x) plan j k)
            → IsTrue (true && is_before line plan j) ⊎ IsTrue (true && is_after line plan j)
            ⊎ (k : ℕ) × (k < length line.arcs) × IsTrue (is_inside line plan j k)
        placed j (inl t) = inl (sym (same_before j) ∙ t)
        placed j (inr (inl t)) = inr (inl t)
        placed j (inr (inr m)) = inr (inr (m.0, m.1, sym (same_inside j m.0) ∙ m.2))

-- lists that begin alike compare as their rests do
lex_prefix : (cs xs ys : List ℤ) → IsTrue (is_lex_le xs ys) → IsTrue (is_lex_le (cs ++ xs) (cs ++ ys))
lex_prefix [] xs ys h = h
lex_prefix (c ∷ cs) xs ys h = or_right (int_lt c c) _ (and_both (int_le c c) _ (test_of_le c c (omega (arith, ints))) (lex_prefix cs xs ys h))

-- where the cumuls and the breaks before are settled, the least start of a break may be put in
pub least_start_may_be_pinned : (line : Line) (i : ℕ) (x : ℤ) → i < length line.breaks → (break_at line i).from ≤ℤ x → x ≤ℤ (break_at line i).to
    → ((p q : Plan) → IsSchedule line p → IsSchedule line q → p.cumuls ≡ q.cumuls)
    → ((p q : Plan) → IsSchedule line p → IsSchedule line q → (j : ℕ) → j < i → break_start p j ≡ break_start q j)
    → ((q : Plan) → IsSchedule line q → x ≤ℤ break_start q i)
    → (plan : Plan) → IsChosen (row_pinned line i x) plan → IsChosen line plan
least_start_may_be_pinned line i x there low high cumuls before least plan c = record { schedule = mine.0; least = compare }
  where
    mine : IsSchedule line plan × (break_start plan i ≡ x)
    mine = of_row_pinned line i x there plan low high c.schedule

    split : (a b : ℤ) → a ≤ℤ b → (b ≡ a) ⊎ (a <ℤ b)
    split a b h = Prim.grind (arith, ints)

    compare : (other : Plan) → IsSchedule line other → IsTrue (is_lex_le (plan.cumuls ++ plan.breaks) (other.cumuls ++ other.breaks))
    compare other s = elim (split x (break_start other i) (least other s)) [
      | inl e ↦ c.least other (to_row_pinned line i x there other s e)
      | inr h ↦ subst (λ cs. IsTrue (is_lex_le (plan.cumuls ++ plan.breaks) (cs ++ other.breaks))) (cumuls plan other mine.0 s)
          (lex_prefix plan.cumuls plan.breaks other.breaks
          (lex_less_at i plan.breaks other.breaks (before plan other mine.0 s)
          (let n = mine.0.start_of_each_break in omega (arith, there, n)) (let n = s.start_of_each_break in omega (arith, there, n))
          (let e = mine.1 in omega (arith, ints, e, h))))
    ]
