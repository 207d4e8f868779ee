-- The laws of the chosen schedule, as statements: what the functions and tests of schedules mean.
use Rattle.std.specs.Prelude.{◌≡◌, ℕ, ◌<◌, ◌↔◌, false, ◌&&◌, IsTrue, ℤ, ◌≤ℤ◌, Some, length, set, slice_index_or}
use Rattle.vr_model.specs.tables.Numbers.{is_same_number}
use Rattle.vr_model.specs.schedules.Lines.{Line}
use Rattle.vr_model.specs.schedules.Schedules.{Plan, Sides, KeepsRules, IsSchedule, IsFeasible, IsChosen, IsReached}
use Rattle.vr_model.specs.schedules.Schedules.{ReachesEnd, cumul}
use Rattle.vr_model.specs.deciding.ScheduleTests.{keeps_schedule_rules}
use Rattle.vr_model.specs.schedules.Choices.{chosen, is_feasible, is_reached, reaches_end}

-- the rules of a schedule hold exactly if their tests pass
abbrev pub RulesAsTested : Type 0
RulesAsTested =
    (where_else : Sides) (line : Line) (plan : Plan) → IsTrue (keeps_schedule_rules where_else line plan)
    ↔ KeepsRules where_else line plan

-- no two schedules of a line are chosen
abbrev pub OneChosen : Type 0
OneChosen = (line : Line) (plan other : Plan) → IsChosen line plan → IsChosen line other → plan ≡ other

-- the function of the chosen schedule gives the one that is chosen
abbrev pub ChosenIsLeast : Type 0
ChosenIsLeast = (line : Line) (plan : Plan) → (chosen line ≡ Some plan) ↔ IsChosen line plan

-- the function gives a schedule exactly if the line is feasible
abbrev pub ChosenWhereFeasible : Type 0
ChosenWhereFeasible = (line : Line) → IsTrue (is_feasible line) ↔ IsFeasible line

-- the tests of the reach sets pass exactly at their numbers
abbrev pub ReachedAsTested : Type 0
ReachedAsTested = (line : Line) (k b : ℕ) (x : ℤ) → IsTrue (is_reached line k b x) ↔ IsReached line k b x

abbrev pub EndReachedAsTested : Type 0
EndReachedAsTested = (line : Line) (k b : ℕ) (x : ℤ) → IsTrue (reaches_end line k b x) ↔ ReachesEnd line k b x

-- the line whose stop k allows x alone, or nothing if it did not allow x
abbrev pub pinned : Line → ℕ → ℤ → Line
pinned line k x =
    record line {
      allowed = set line.allowed k (λ y. slice_index_or line.allowed k (λ _. false) y
          && is_same_number x y);
    }

-- the schedules of a line have the same cumuls at the stops before k
abbrev pub IsSettledBefore : Line → ℕ → Type 0
IsSettledBefore line k =
    (plan other : Plan) → IsSchedule line plan → IsSchedule line other → (i : ℕ) → i < k → cumul plan i ≡ cumul other i

-- If the cumuls before stop k are settled, the least cumul of stop k may be put in. What is chosen then is chosen of
-- the line too.
abbrev pub LeastCumulMayBePinned : Type 0
LeastCumulMayBePinned = (line : Line) (k : ℕ) (x : ℤ) → k < length line.allowed → IsSettledBefore line k
    → ((other : Plan) → IsSchedule line other → x ≤ℤ cumul other k) → (plan : Plan) → IsChosen (pinned line k x) plan
    → IsChosen line plan
