-- The chosen schedule, one stop at a time: with the least cumul of a stop put in, the chosen schedule stays the same.
use Rattle.std.proofs.Common.{◌≡◌, ℕ, zero, suc, ◌<◌, ◌≢◌, Bool, false, ◌&&◌, List, [], ◌∷◌, ◌++◌, length, sym, ◌∙◌, ap, subst, inl, inr, arith, ◌⊎◌}
use Rattle.std.specs.Prelude.{ℤ, pos, ◌≤ℤ◌, ◌<ℤ◌, int_lt, int_le, IsTrue, slice_index_or}
use Rattle.std.proofs.lemmas.Int.{ints}
use Rattle.std.proofs.lemmas.Bool.{cases_lt}
use Rattle.std.proofs.lemmas.List.{length-set, get_or-set_same, get_or-set_other, get_or_append_left, length-append}
use Rattle.vr_model.specs.tables.Numbers.{number_at, within, is_same_number, horizon, is_lex_le}
use Rattle.vr_model.specs.schedules.Lines.{Line}
use Rattle.vr_model.specs.schedules.Schedules.{Plan, IsSchedule, IsChosen, cumul, allows}
use Rattle.vr_model.specs.schedules.ChosenLaws.{pinned, LeastCumulMayBePinned}
use Rattle.vr_model.specs.deciding.Testing.{and_left, and_right, and_both, or_left, or_right, tests_of_eq, eq_of_tests, test_of_le}

-- a schedule of a line is one of the line with other sets of allowed cumuls, where they have its own
by_allowed : (line : Line) (allowed : List (ℤ → Bool)) (plan : Plan) → length allowed ≡ length line.allowed → IsSchedule line plan
    → ((i : ℕ) → i < length line.allowed → IsTrue (allows (record line { allowed = allowed }) i (cumul plan i)))
    → IsSchedule (record line { allowed = allowed }) plan
by_allowed line allowed plan same s at_stop = record {
  cumul_of_each_stop = s.cumul_of_each_stop ∙ sym same;
  slack_of_each_arc = s.slack_of_each_arc;
  start_of_each_break = s.start_of_each_break;
  cumuls_allowed = λ i h. at_stop i (omega (arith, h, same));
  slacks_left = s.slacks_left;
  slacks_bounded = s.slacks_bounded;
  breaks_in_range = s.breaks_in_range;
  breaks_in_order = s.breaks_in_order;
  breaks_placed = s.breaks_placed;
  slacks_carry_breaks = s.slacks_carry_breaks;
}

module _ (line : Line) (k : ℕ) (x : ℤ) (there : k < length line.allowed) where
  allows_other : (i : ℕ) (y : ℤ) → i ≢ k → allows (pinned line k x) i y ≡ allows line i y
  allows_other i y h = ap (λ t. within (pos 0) horizon y && t y)
      (get_or-set_other line.allowed k i (λ y. slice_index_or line.allowed k (λ _. false) y && is_same_number x y) (λ _. false) h)

  allows_there : (y : ℤ) → allows (pinned line k x) k y ≡ (within (pos 0) horizon y && (slice_index_or line.allowed k (λ _. false) y && is_same_number x y))
  allows_there y = ap (λ t. within (pos 0) horizon y && t y)
      (get_or-set_same line.allowed k (λ y. slice_index_or line.allowed k (λ _. false) y && is_same_number x y) (λ _. false) there)

  same_stops : length (pinned line k x).allowed ≡ length line.allowed
  same_stops = length-set line.allowed k (λ y. slice_index_or line.allowed k (λ _. false) y && is_same_number x y)

  -- a schedule with the cumul x at stop k is one of the pinned line
  pub to_pinned : (plan : Plan) → IsSchedule line plan → cumul plan k ≡ x → IsSchedule (pinned line k x) plan
  to_pinned plan s e = by_allowed line (pinned line k x).allowed plan same_stops s at_stop
    where
      here : IsTrue (allows (pinned line k x) k (cumul plan k))
      here = allows_there (cumul plan k)
          ∙ and_both (within (pos 0) horizon (cumul plan k)) _ (and_left (within (pos 0) horizon (cumul plan k)) _ (s.cumuls_allowed k there))
          (and_both (slice_index_or line.allowed k (λ _. false) (cumul plan k)) _
          (and_right (within (pos 0) horizon (cumul plan k)) _ (s.cumuls_allowed k there)) (tests_of_eq x (cumul plan k) (sym e)))

      at_stop : (i : ℕ) → i < length line.allowed → IsTrue (allows (pinned line k x) i (cumul plan i))
      at_stop i h = elim (cases_lt i k) [
        | inl l ↦ allows_other i (cumul plan i) (omega (arith, l)) ∙ s.cumuls_allowed i h
        | inr l ↦ elim (cases_lt k i) [
          | inl m ↦ allows_other i (cumul plan i) (omega (arith, m)) ∙ s.cumuls_allowed i h
          | inr m ↦ (let j : k ≡ i = omega (arith, l, m) in subst (λ n. IsTrue (allows (pinned line k x) n (cumul plan n))) j here)
        ]
      ]

  -- and the other way round
  pub of_pinned : (plan : Plan) → IsSchedule (pinned line k x) plan → IsSchedule line plan × (cumul plan k ≡ x)
  of_pinned plan s = (
    by_allowed (pinned line k x) line.allowed plan (sym same_stops) s (λ i h. at_stop i (let n = same_stops in omega (arith, h, n))),
    sym (eq_of_tests x (cumul plan k)
        (and_right (slice_index_or line.allowed k (λ _. false) (cumul plan k)) _ (and_right (within (pos 0) horizon (cumul plan k)) _ here))),
  )
    where
      here : IsTrue (within (pos 0) horizon (cumul plan k) && (slice_index_or line.allowed k (λ _. false) (cumul plan k) && within x x (cumul plan k)))
      here = sym (allows_there (cumul plan k)) ∙ s.cumuls_allowed k (let n = same_stops in omega (arith, there, n))

      at_stop : (i : ℕ) → i < length line.allowed → IsTrue (allows line i (cumul plan i))
      at_stop i h = elim (cases_lt i k) [
        | inl l ↦ sym (allows_other i (cumul plan i) (omega (arith, l))) ∙ s.cumuls_allowed i (let n = same_stops in omega (arith, h, n))
        | inr l ↦ elim (cases_lt k i) [
          | inl m ↦ sym (allows_other i (cumul plan i) (omega (arith, m))) ∙ s.cumuls_allowed i (let n = same_stops in omega (arith, h, n))
          | inr m ↦ (let j : k ≡ i = omega (arith, l, m) in subst (λ n. IsTrue (allows line n (cumul plan n))) j
              (and_both (within (pos 0) horizon (cumul plan k)) _ (and_left (within (pos 0) horizon (cumul plan k)) _ here)
              (and_left (slice_index_or line.allowed k (λ _. false) (cumul plan k)) _ (and_right (within (pos 0) horizon (cumul plan k)) _ here))))
        ]
      ]

-- lists that agree below place k, and of which the first is less there
pub lex_less_at : (k : ℕ) (xs ys : List ℤ) → ((i : ℕ) → i < k → number_at xs i ≡ number_at ys i)
    → k < length xs → k < length ys → number_at xs k <ℤ number_at ys k → IsTrue (is_lex_le xs ys)
lex_less_at k [] ys same hx hy less = absurd (omega (arith, hx))
lex_less_at k (x ∷ xs) [] same hx hy less = absurd (omega (arith, hy))
lex_less_at zero (x ∷ xs) (y ∷ ys) same hx hy less = or_left (int_lt x y) _ (lt_test x y less)
  where
    lt_test : (x y : ℤ) → x <ℤ y → IsTrue (int_lt x y)
    lt_test x y h = Prim.grind (arith, ints)
lex_less_at (suc k) (x ∷ xs) (y ∷ ys) same hx hy less =
    let e : x ≡ y = same 0 (omega arith) in
    or_right (int_lt x y) _
    (and_both (int_le x y) _ (test_of_le x y (omega (arith, ints, e)))
    (lex_less_at k xs ys (λ i h. same (suc i) (omega (arith, h))) (omega (arith, hx)) (omega (arith, hy)) less))

-- where the cumuls below stop k are settled, and x is the least cumul of stop k, the chosen schedule of the pinned line is that of the line
pub chosen_pinned : (line : Line) (k : ℕ) (x : ℤ) → k < length line.allowed
    → ((p q : Plan) → IsSchedule line p → IsSchedule line q → (i : ℕ) → i < k → cumul p i ≡ cumul q i)
    → ((other : Plan) → IsSchedule line other → x ≤ℤ cumul other k)
    → (plan : Plan) → IsChosen (pinned line k x) plan → IsChosen line plan
chosen_pinned line k x there settled least plan c = record { schedule = mine.0; least = compare }
  where
    mine : IsSchedule line plan × (cumul plan k ≡ x)
    mine = of_pinned line k x there plan c.schedule

    early : (p : Plan) → IsSchedule line p → (i : ℕ) → i < suc k → number_at (p.cumuls ++ p.breaks) i ≡ cumul p i
    early p s i h = get_or_append_left p.cumuls p.breaks (pos 0) i (let n = s.cumul_of_each_stop in omega (arith, h, n, there))

    long : (p : Plan) → IsSchedule line p → k < length (p.cumuls ++ p.breaks)
    long p s = let n = s.cumul_of_each_stop in let m = length-append p.cumuls p.breaks in omega (arith, n, m, there)

    split : (a b : ℤ) → a ≤ℤ b → (b ≡ a) ⊎ (a <ℤ b)
    split a b h = Prim.grind (arith, ints)

    compare : (other : Plan) → IsSchedule line other → IsTrue (is_lex_le (plan.cumuls ++ plan.breaks) (other.cumuls ++ other.breaks))
    compare other s = elim (split x (cumul other k) (least other s)) [
      | inl e ↦ c.least other (to_pinned line k x there other s e)
      | inr h ↦ lex_less_at k (plan.cumuls ++ plan.breaks) (other.cumuls ++ other.breaks)
          (λ i l. early plan mine.0 i (omega (arith, l)) ∙ (settled plan other mine.0 s i l ∙ sym (early other s i (omega (arith, l)))))
          (long plan mine.0) (long other s)
          (let a = early plan mine.0 k (omega arith) in let b = early other s k (omega arith) in let e = mine.1 in omega (arith, ints, a, b, e, h))
    ]

pub least_cumul_may_be_pinned : LeastCumulMayBePinned
least_cumul_may_be_pinned line k x there settled least plan c = chosen_pinned line k x there settled least plan c
