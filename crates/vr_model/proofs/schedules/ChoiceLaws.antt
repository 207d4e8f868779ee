-- What the functions `chosen`, `is_feasible`, `is_reached` and `reaches_end` say.
use Rattle.std.proofs.Common.{◌≡◌, ℕ, Bool, true, false, Some, None, Option, refl, sym, ◌∙◌, ap, inl, inr, ◌⊎◌}
use Rattle.std.specs.Prelude.{ℤ, IsTrue, is_some}
use Rattle.vr_model.specs.tables.Numbers.{is_same_number}
use Rattle.vr_model.specs.schedules.Lines.{Line}
use Rattle.vr_model.specs.schedules.Schedules.{Plan, before_only, after_only, IsChosen, IsFeasible, IsReached, ReachesEnd, front, back, cumul}
use Rattle.vr_model.specs.deciding.ChosenSchedule.{IsLeastPlan, NoPlan, find_plan, find_chosen}
use Rattle.vr_model.proofs.schedules.OneChosen.{chosen_same}
use Rattle.vr_model.specs.schedules.Choices.{found_plan, chosen, is_feasible, was_found, is_reached, reaches_end}
use Rattle.vr_model.specs.deciding.ScheduleTests.{keeps_rules-sound, keeps_rules-complete}
use Rattle.vr_model.specs.schedules.ChosenLaws.{RulesAsTested, OneChosen, ChosenIsLeast, ChosenWhereFeasible, ReachedAsTested, EndReachedAsTested}
use Rattle.vr_model.specs.deciding.Testing.{eq_of_tests, tests_of_eq}

pub chosen_some : (line : Line) (plan : Plan) → IsChosen line plan → chosen line ≡ Some plan
chosen_some line plan c = go (find_chosen line)
  where
    go : (f : ((p : Plan) × IsChosen line p) ⊎ ¬ IsFeasible line) → found_plan line f ≡ Some plan
    go (inl r) = ap Some (chosen_same line r.0 plan r.1 c)
    go (inr none) = absurd (none (plan, c.schedule))

pub chosen_is : (line : Line) (plan : Plan) → chosen line ≡ Some plan → IsChosen line plan
chosen_is line plan e = go (find_chosen line) e
  where
    go : (f : ((p : Plan) × IsChosen line p) ⊎ ¬ IsFeasible line) → found_plan line f ≡ Some plan → IsChosen line plan
    go (inl r) e = let s : r.0 ≡ plan = Prim.cc in Rattle.std.proofs.Common.subst (IsChosen line) s r.1
    go (inr none) e = absurd (no e)
      where
        no : None ≡ Some plan → ⊥
        no e = Prim.cc

pub feasible_true : (line : Line) → IsFeasible line → is_feasible line ≡ true
feasible_true line f = go (find_chosen line)
  where
    go : (c : ((p : Plan) × IsChosen line p) ⊎ ¬ IsFeasible line) → is_some (found_plan line c) ≡ true
    go (inl r) = refl
    go (inr none) = absurd (none f)

pub feasible_is : (line : Line) → is_feasible line ≡ true → IsFeasible line
feasible_is line e = go (find_chosen line) e
  where
    go : (c : ((p : Plan) × IsChosen line p) ⊎ ¬ IsFeasible line) → is_some (found_plan line c) ≡ true → IsFeasible line
    go (inl r) e = (r.0, r.1.schedule)
    go (inr none) e = absurd (no e)
      where
        no : false ≡ true → ⊥
        no e = Prim.cc

pub reached_is : (line : Line) (k b : ℕ) (x : ℤ) → IsTrue (is_reached line k b x) → IsReached line k b x
reached_is line k b x e = go (find_plan before_only (λ plan. is_same_number x (cumul plan k)) (front line k b)) e
  where
    go : (c : ((p : Plan) × IsLeastPlan before_only (λ plan. is_same_number x (cumul plan k)) (front line k b) p)
        ⊎ NoPlan before_only (λ plan. is_same_number x (cumul plan k)) (front line k b)) → was_found c ≡ true → IsReached line k b x
    go (inl r) e = (r.0, r.1.keeps, sym (eq_of_tests x (cumul r.0 k) r.1.passes))
    go (inr none) e = absurd (no e)
      where
        no : false ≡ true → ⊥
        no e = Prim.cc

pub reached_true : (line : Line) (k b : ℕ) (x : ℤ) → IsReached line k b x → IsTrue (is_reached line k b x)
reached_true line k b x f = go (find_plan before_only (λ plan. is_same_number x (cumul plan k)) (front line k b))
  where
    go : (c : ((p : Plan) × IsLeastPlan before_only (λ plan. is_same_number x (cumul plan k)) (front line k b) p)
        ⊎ NoPlan before_only (λ plan. is_same_number x (cumul plan k)) (front line k b)) → was_found c ≡ true
    go (inl r) = refl
    go (inr none) = absurd (none f.0 f.1 (tests_of_eq x (cumul f.0 k) (sym f.2)))

pub reaches_is : (line : Line) (k b : ℕ) (x : ℤ) → IsTrue (reaches_end line k b x) → ReachesEnd line k b x
reaches_is line k b x e = go (find_plan after_only (λ plan. is_same_number x (cumul plan 0)) (back line k b)) e
  where
    go : (c : ((p : Plan) × IsLeastPlan after_only (λ plan. is_same_number x (cumul plan 0)) (back line k b) p)
        ⊎ NoPlan after_only (λ plan. is_same_number x (cumul plan 0)) (back line k b)) → was_found c ≡ true → ReachesEnd line k b x
    go (inl r) e = (r.0, r.1.keeps, sym (eq_of_tests x (cumul r.0 0) r.1.passes))
    go (inr none) e = absurd (no e)
      where
        no : false ≡ true → ⊥
        no e = Prim.cc

pub reaches_true : (line : Line) (k b : ℕ) (x : ℤ) → ReachesEnd line k b x → IsTrue (reaches_end line k b x)
reaches_true line k b x f = go (find_plan after_only (λ plan. is_same_number x (cumul plan 0)) (back line k b))
  where
    go : (c : ((p : Plan) × IsLeastPlan after_only (λ plan. is_same_number x (cumul plan 0)) (back line k b) p)
        ⊎ NoPlan after_only (λ plan. is_same_number x (cumul plan 0)) (back line k b)) → was_found c ≡ true
    go (inl r) = refl
    go (inr none) = absurd (none f.0 f.1 (tests_of_eq x (cumul f.0 0) (sym f.2)))

-- ---- the laws

pub rules_as_tested : RulesAsTested
rules_as_tested where_else line plan = (keeps_rules-sound where_else line plan, keeps_rules-complete where_else line plan)

pub one_chosen : OneChosen
one_chosen line plan other c d = chosen_same line plan other c d

pub chosen_is_least : ChosenIsLeast
chosen_is_least line plan = (chosen_is line plan, chosen_some line plan)

pub chosen_where_feasible : ChosenWhereFeasible
chosen_where_feasible line = (feasible_is line, feasible_true line)

pub reached_as_tested : ReachedAsTested
reached_as_tested line k b x = (reached_is line k b x, reached_true line k b x)

pub end_reached_as_tested : EndReachedAsTested
end_reached_as_tested line k b x = (reaches_is line k b x, reaches_true line k b x)
