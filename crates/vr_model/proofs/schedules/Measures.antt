-- The least measure of the schedules of a line.
use Rattle.std.proofs.Common.{◌≡◌, true, false, ℕ, ◌<◌, inl, inr, ◌⊎◌, refl, sym, length}
use Rattle.std.specs.Prelude.{ℤ, pos, ◌≤ℤ◌, IsTrue}
use Rattle.vr_model.specs.tables.Numbers.{horizon, is_same_number, within}
use Rattle.vr_model.specs.schedules.Lines.{Line}
use Rattle.vr_model.specs.schedules.Schedules.{Plan, both_sides, cumul, IsSchedule, IsFeasible}
use Rattle.vr_model.specs.schedules.Choices.{was_found}
use Rattle.vr_model.specs.deciding.ChosenSchedule.{IsLeastPlan, NoPlan, find_plan}
use Rattle.vr_model.specs.deciding.Testing.{and_left, eq_of_tests, tests_of_eq, within_is}
use Rattle.vr_model.specs.deciding.LeastCumul.{LeastFound, find_least}
use Rattle.vr_model.specs.schedules.Narrowed.{measures, number_found, least_of}

-- the cumul of a stop is in its range
pub cumul-range : (line : Line) (k : ℕ) → k < length line.allowed → (plan : Plan) → IsSchedule line plan
    → (pos 0 ≤ℤ cumul plan k) × (cumul plan k ≤ℤ horizon)
cumul-range line k there plan s = within_is (pos 0) horizon (cumul plan k) (and_left (within (pos 0) horizon (cumul plan k)) _ (s.cumuls_allowed k there))

module _ (measure : Plan → ℤ) (line : Line) where
  -- a number that is measured
  pub measured-is : (x : ℤ) → IsTrue (measures measure line x) → (plan : Plan) × IsSchedule line plan × (measure plan ≡ x)
  measured-is x t = go (find_plan both_sides (λ plan. is_same_number x (measure plan)) line) t
    where
      go : (c : ((p : Plan) × IsLeastPlan both_sides (λ plan. is_same_number x (measure plan)) line p)
          ⊎ NoPlan both_sides (λ plan. is_same_number x (measure plan)) line) → was_found c ≡ true → (plan : Plan) × IsSchedule line plan × (measure plan ≡ x)
      go (inl r) t = (r.0, r.1.keeps, sym (eq_of_tests x (measure r.0) r.1.passes))
      go (inr none) t = absurd (no t)
        where
          no : false ≡ true → ⊥
          no e = Prim.cc

  pub measured-true : (x : ℤ) (plan : Plan) → IsSchedule line plan → measure plan ≡ x → IsTrue (measures measure line x)
  measured-true x plan s e = go (find_plan both_sides (λ plan. is_same_number x (measure plan)) line)
    where
      go : (c : ((p : Plan) × IsLeastPlan both_sides (λ plan. is_same_number x (measure plan)) line p)
          ⊎ NoPlan both_sides (λ plan. is_same_number x (measure plan)) line) → was_found c ≡ true
      go (inl r) = refl
      go (inr none) = absurd (none plan s (tests_of_eq x (measure plan) (sym e)))

  -- a number that is the least measure
  pub record IsLeastMeasure (x : ℤ) : Type 0 where
    pub reached : (plan : Plan) × IsSchedule line plan × (measure plan ≡ x)
    pub least : (other : Plan) → IsSchedule line other → x ≤ℤ measure other

  -- where there is a schedule the least measure is found
  pub least-is : ((plan : Plan) → IsSchedule line plan → (pos 0 ≤ℤ measure plan) × (measure plan ≤ℤ horizon))
      → IsFeasible line → IsLeastMeasure (least_of measure line)
  least-is in_range feasible = go (find_least (measures measure line))
    where
      go : (found : LeastFound (measures measure line)) → IsLeastMeasure (number_found (measures measure line) found)
      go (inl r) = record {
        reached = measured-is r.0 r.1.passes;
        least = λ other s. r.1.least (measure other) (in_range other s).0 (in_range other s).1 (measured-true (measure other) other s refl);
      }
      go (inr none) = absurd (none (measure feasible.0) (in_range feasible.0 feasible.1).0
          (in_range feasible.0 feasible.1).1 (measured-true (measure feasible.0) feasible.0 feasible.1 refl))
