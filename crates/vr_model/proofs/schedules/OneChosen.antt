-- A line has no two chosen schedules.
use Rattle.std.proofs.Common.{◌≡◌, ◌+◌, Bool, ◌&&◌, List, [], ◌∷◌, length, refl, sym, ◌∙◌, ap, ap₂, inl, inr, arith}
use Rattle.std.specs.Prelude.{ℤ, IsTrue, int_le, int_lt, ◌||◌}
use Rattle.std.proofs.lemmas.Int.{ints}
use Rattle.std.proofs.lemmas.List.{length-append}
use Rattle.vr_model.specs.tables.Numbers.{is_lex_le}
use Rattle.vr_model.specs.schedules.Lines.{Line}
use Rattle.vr_model.specs.schedules.Schedules.{Plan, both_sides, IsChosen}
use Rattle.vr_model.specs.deciding.Testing.{and_left, and_right, or_cases, le_of_test}
use Rattle.vr_model.specs.deciding.ChosenSchedule.{plan_of_key, plan_key, plan_of-key}

-- a list that comes no later than another of its length, and the other no later than it, is the other
lex_both : (xs ys : List ℤ) → length xs ≡ length ys → IsTrue (is_lex_le xs ys) → IsTrue (is_lex_le ys xs) → xs ≡ ys
lex_both [] [] e h g = refl
lex_both [] (y ∷ ys) e h g = absurd (omega (arith, e))
lex_both (x ∷ xs) [] e h g = absurd (omega (arith, e))
lex_both (x ∷ xs) (y ∷ ys) e h g =
    let r = first_entries x y (is_lex_le xs ys) (is_lex_le ys xs) h g in
    let t : xs ≡ ys = lex_both xs ys (omega (arith, e)) r.1 r.2 in λ i. r.0 i ∷ t i
  where
    first_entries : (x y : ℤ) (b c : Bool) → IsTrue (int_lt x y || (int_le x y && b)) → IsTrue (int_lt y x || (int_le y x && c)) → (x ≡ y) × IsTrue b × IsTrue c
    first_entries x y b c h g = elim (or_cases (int_lt x y) _ h) [
      | inl l ↦ elim (or_cases (int_lt y x) _ g) [ inl m ↦ absurd (clash l m) | inr m ↦ absurd (clash_le x y l (and_left (int_le y x) c m)) ]
      | inr l ↦ elim (or_cases (int_lt y x) _ g) [
        | inl m ↦ absurd (clash_le y x m (and_left (int_le x y) b l))
        | inr m ↦ (same (and_left (int_le x y) b l) (and_left (int_le y x) c m), and_right (int_le x y) b l, and_right (int_le y x) c m)
      ]
    ]
      where
        clash : IsTrue (int_lt x y) → IsTrue (int_lt y x) → ⊥
        clash h g = Prim.grind (arith, ints)

        clash_le : (u v : ℤ) → IsTrue (int_lt u v) → IsTrue (int_le v u) → ⊥
        clash_le u v h g = Prim.grind (arith, ints)

        same : IsTrue (int_le x y) → IsTrue (int_le y x) → x ≡ y
        same h g = let a = le_of_test x y h in let b = le_of_test y x g in omega (arith, ints, a, b)

-- there is only one chosen schedule
pub chosen_same : (line : Line) (p q : Plan) → IsChosen line p → IsChosen line q → p ≡ q
chosen_same line p q cp cq =
    let e : plan_key p ≡ plan_key q = lex_both (plan_key p) (plan_key q)
    (length-append p.cumuls p.breaks
    ∙ (ap₂ (λ m n. m + n) (cp.schedule.cumul_of_each_stop ∙ sym cq.schedule.cumul_of_each_stop)
    (cp.schedule.start_of_each_break ∙ sym cq.schedule.start_of_each_break) ∙ sym (length-append q.cumuls q.breaks)))
    (cp.least q cq.schedule) (cq.least p cp.schedule) in
    sym (plan_of-key both_sides line p cp.schedule) ∙ (ap (plan_of_key line) e ∙ plan_of-key both_sides line q cq.schedule)
