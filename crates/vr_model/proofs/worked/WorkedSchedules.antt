-- Two worked chosen schedules, with the costs of their lists.
use Rattle.std.proofs.Common.{◌≡◌, ℕ, zero, suc, ◌<◌, Bool, true, false, cond, ◌&&◌, List, [], ◌∷◌, ◌++◌, length, refl, ◌∙◌, ap, inl, inr, ◌⊎◌, arith, Some}
use Rattle.std.specs.Prelude.{ℤ, pos, ◌+ℤ◌, ◌-ℤ◌, ◌≤ℤ◌, ◌<ℤ◌, IsTrue, int_le, int_lt, ◌||◌, not, unwrap_or}
use Rattle.std.proofs.lemmas.Int.{ints}
use Rattle.vr_model.specs.tables.Numbers.{number_at, within, horizon, is_lex_le, is_same_number}
use Rattle.vr_model.specs.schedules.Lines.{Line, line}
use Rattle.vr_model.specs.schedules.Schedules.{Plan, both_sides, IsSchedule, cumul, slack, break_start, is_before, is_after, is_inside, break_time}
use Rattle.vr_model.specs.deciding.Testing.{eq_of_tests, and_left, and_right, le_of_test, test_of_le, within_is, test_of_within}
use Rattle.vr_model.proofs.tables.Tests.{clash, fails_not}
use Rattle.vr_model.specs.deciding.ScheduleTests.{keeps_rules-sound}
use Rattle.vr_model.specs.schedules.Choices.{chosen}
use Rattle.vr_model.specs.routes.Costs.{cost, sum_of, parts_at, no_plan}
use Rattle.vr_model.proofs.schedules.ChoiceLaws.{chosen_some}
use Rattle.vr_model.proofs.worked.WorkedModels.{waits, rests}

-- a first number that is no greater, and the others where it is the same
lex_at : (x y : ℤ) (xs ys : List ℤ) → x ≤ℤ y → (x ≡ y → IsTrue (is_lex_le xs ys)) → IsTrue (is_lex_le (x ∷ xs) (y ∷ ys))
lex_at x y xs ys h rest = go (int_lt x y) refl
  where
    go : (b : Bool) → int_lt x y ≡ b → IsTrue (b || (int_le x y && is_lex_le xs ys))
    go true e = refl
    go false e = ap (λ b. b && is_lex_le xs ys) (test_of_le x y h) ∙ rest (Prim.grind (arith, ints))

-- ---- waiting: with node 1 forbidden in 5..=8 and a slack of at most 3, the vehicle starts at 1

abbrev waiting : Line
waiting = line waits 0 0 (1 ∷ [])

abbrev waiting_plan : Plan
waiting_plan = record { cumuls = pos 1 ∷ pos 9 ∷ pos 14 ∷ []; slacks = pos 3 ∷ pos 0 ∷ []; breaks = [] }

-- a number outside an interval that is not before it is behind it
not_in : (lo hi x : ℤ) → IsTrue (not (within lo hi x) && true) → lo ≤ℤ x → hi <ℤ x
not_in lo hi x h low = go (int_le x hi) refl
  where
    go : (b : Bool) → int_le x hi ≡ b → hi <ℤ x
    go true e =
        absurd (clash (within lo hi x) (test_of_within lo hi x low (le_of_test x hi e)) (fails_not (within lo hi x) (and_left (not (within lo hi x)) true h)))
    go false e = Prim.grind (arith, ints)

waiting_least : (other : Plan) → IsSchedule waiting other → IsTrue (is_lex_le (pos 1 ∷ pos 9 ∷ pos 14 ∷ []) (other.cumuls ++ other.breaks))
waiting_least other s = go other.cumuls s.cumul_of_each_stop (omega (arith, ints, node, left, (s.slacks_bounded 0 (omega arith)).1))
    (omega (arith, ints, node)) (omega (arith, ints, second, (s.slacks_bounded 1 (omega arith)).0))
  where
    left : slack other 0 ≡ (cumul other 1 -ℤ cumul other 0) -ℤ pos 5
    left = s.slacks_left 0 (omega arith)

    second : slack other 1 ≡ (cumul other 2 -ℤ cumul other 1) -ℤ pos 5
    second = s.slacks_left 1 (omega arith)

    above : pos 0 ≤ℤ cumul other 0
    above = (within_is (pos 0) horizon (cumul other 0) (and_left (within (pos 0) horizon (cumul other 0)) _ (s.cumuls_allowed 0 (omega arith)))).0

    node : pos 8 <ℤ cumul other 1
    node = not_in (pos 5) (pos 8) (cumul other 1)
        (and_right (within (pos 0) (pos 100) (cumul other 1)) _ (and_right (within (pos 0) horizon (cumul other 1)) _ (s.cumuls_allowed 1 (omega arith))))
        (omega (arith, ints, above, left, (s.slacks_bounded 0 (omega arith)).0))

    go : (cs : List ℤ) → length cs ≡ 3 → pos 1 ≤ℤ number_at cs 0 → pos 9 ≤ℤ number_at cs 1
        → pos 5 ≤ℤ (number_at cs 2 -ℤ number_at cs 1) → IsTrue (is_lex_le (pos 1 ∷ pos 9 ∷ pos 14 ∷ []) (cs ++ other.breaks))
    go [] e a b d = absurd (omega (arith, e))
    go (x ∷ []) e a b d = absurd (omega (arith, e))
    go (x ∷ y ∷ []) e a b d = absurd (omega (arith, e))
    go (x ∷ y ∷ z ∷ cs) e a b d = lex_at (pos 1) x (pos 9 ∷ pos 14 ∷ []) (y ∷ (z ∷ (cs ++ other.breaks))) a
        (λ e1. lex_at (pos 9) y (pos 14 ∷ []) (z ∷ (cs ++ other.breaks)) b
        (λ e2. lex_at (pos 14) z [] (cs ++ other.breaks) (omega (arith, ints, b, d, e2)) (λ e3. refl)))

waiting_chosen : chosen waiting ≡ Some waiting_plan
waiting_chosen = chosen_some waiting waiting_plan (record { schedule = keeps_rules-sound both_sides waiting waiting_plan refl; least = waiting_least })

waiting_cost : cost waits ((1 ∷ []) ∷ []) ≡ pos 10
unfolding cost
waiting_cost = ap (λ o. sum_of (parts_at waits (record { lists = (1 ∷ []) ∷ []; plans = (unwrap_or o no_plan ∷ []) ∷ [] }))) waiting_chosen

-- ---- resting: the break of 5 lies inside the first arc, so node 1 is reached at 15 at the earliest

abbrev resting : Line
resting = line rests 0 0 (1 ∷ [])

abbrev resting_plan : Plan
resting_plan = record { cumuls = pos 0 ∷ pos 15 ∷ pos 25 ∷ []; slacks = pos 5 ∷ pos 0 ∷ []; breaks = pos 4 ∷ [] }

resting_least : (other : Plan) → IsSchedule resting other → IsTrue (is_lex_le (pos 0 ∷ pos 15 ∷ pos 25 ∷ pos 4 ∷ []) (other.cumuls ++ other.breaks))
resting_least other s = go other.cumuls other.breaks s.cumul_of_each_stop s.start_of_each_break
    (omega (arith, ints, fixed)) node (omega (arith, ints, second, (s.slacks_bounded 1 (omega arith)).0)) range.0
  where
    fixed : cumul other 0 ≡ pos 0
    fixed = eq_of_tests (cumul other 0) (pos 0)
        (and_right (within (pos 0) (pos 100) (cumul other 0) && true) (is_same_number (cumul other 0) (pos 0))
        (and_right (within (pos 0) horizon (cumul other 0)) _ (s.cumuls_allowed 0 (omega arith))))

    left : slack other 0 ≡ (cumul other 1 -ℤ cumul other 0) -ℤ pos 10
    left = s.slacks_left 0 (omega arith)

    second : slack other 1 ≡ (cumul other 2 -ℤ cumul other 1) -ℤ pos 10
    second = s.slacks_left 1 (omega arith)

    range : (pos 4 ≤ℤ break_start other 0) × (break_start other 0 ≤ℤ pos 6)
    range = s.breaks_in_range 0 (omega arith)

    carried : break_time resting other 0 ≤ℤ slack other 0
    carried = s.slacks_carry_breaks 0 (omega arith)

    -- the break can only stand inside the first arc
    on_first : (k : ℕ) → k < 2 → IsTrue (is_inside resting other 0 k) → pos 15 ≤ℤ cumul other 1
    on_first zero low t =
        let b : break_time resting other 0 ≡ pos 5 = ap (λ inside. cond inside (pos 5) (pos 0) +ℤ pos 0) t in
        omega (arith, ints, b, carried, left, fixed)
    on_first (suc zero) low t =
        absurd (let a = le_of_test (cumul other 1 +ℤ pos 2) (break_start other 0) (and_left (int_le (cumul other 1 +ℤ pos 2) (break_start other 0)) _ t) in
        omega (arith, ints, a, range.1, left, (s.slacks_bounded 0 (omega arith)).0, fixed))
    on_first (suc (suc k)) low t = absurd (omega (arith, low))

    placed : IsTrue (true && is_before resting other 0) ⊎ IsTrue (true && is_after resting other 0)
        ⊎ (k : ℕ) × (k < 2) × IsTrue (is_inside resting other 0 k) → pos 15 ≤ℤ cumul other 1
    placed (inl t) = absurd (let a = le_of_test (break_start other 0 +ℤ pos 5) (cumul other 0) t in omega (arith, ints, a, range.0, fixed))
    placed (inr (inl t)) = absurd (let a = le_of_test (cumul other 2) (break_start other 0) t in
        omega (arith, ints, a, range.1, left, second, (s.slacks_bounded 0 (omega arith)).0, (s.slacks_bounded 1 (omega arith)).0, fixed))
    placed (inr (inr w)) = on_first w.0 w.1 w.2

    node : pos 15 ≤ℤ cumul other 1
    node = placed (s.breaks_placed 0 (omega arith))

    go : (cs zs : List ℤ) → length cs ≡ 3 → length zs ≡ 1 → pos 0 ≤ℤ number_at cs 0
        → pos 15 ≤ℤ number_at cs 1 → pos 10 ≤ℤ (number_at cs 2 -ℤ number_at cs 1) → pos 4 ≤ℤ number_at zs 0
        → IsTrue (is_lex_le (pos 0 ∷ pos 15 ∷ pos 25 ∷ pos 4 ∷ []) (cs ++ zs))
    go [] zs e n a b d c = absurd (omega (arith, e))
    go (x ∷ []) zs e n a b d c = absurd (omega (arith, e))
    go (x ∷ y ∷ []) zs e n a b d c = absurd (omega (arith, e))
    go (x ∷ y ∷ z ∷ w ∷ cs) zs e n a b d c = absurd (omega (arith, e))
    go (x ∷ y ∷ z ∷ []) [] e n a b d c = absurd (omega (arith, n))
    go (x ∷ y ∷ z ∷ []) (i ∷ zs) e n a b d c = lex_at (pos 0) x (pos 15 ∷ pos 25 ∷ pos 4 ∷ []) (y ∷ z ∷ i ∷ zs) a
        (λ e0. lex_at (pos 15) y (pos 25 ∷ pos 4 ∷ []) (z ∷ i ∷ zs) b
        (λ e1. lex_at (pos 25) z (pos 4 ∷ []) (i ∷ zs) (omega (arith, ints, b, d, e1)) (λ e2. lex_at (pos 4) i [] zs c (λ e3. refl))))

resting_chosen : chosen resting ≡ Some resting_plan
resting_chosen = chosen_some resting resting_plan (record { schedule = keeps_rules-sound both_sides resting resting_plan refl; least = resting_least })

resting_cost : cost rests ((1 ∷ []) ∷ []) ≡ pos 20
unfolding cost
resting_cost = ap (λ o. sum_of (parts_at rests (record { lists = (1 ∷ []) ∷ []; plans = (unwrap_or o no_plan ∷ []) ∷ [] }))) resting_chosen
