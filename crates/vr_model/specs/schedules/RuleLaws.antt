-- The laws of rules, as statements of lines that have one stop more than arcs.
use Rattle.std.specs.Prelude.{◌≡◌, suc, ◌↔◌, IsTrue, Some, is_some, length, ℤ}
use Rattle.vr_model.specs.schedules.Lines.{Line}
use Rattle.vr_model.specs.schedules.Schedules.{Plan, IsChosen, IsFeasible, IsSchedule}
use Rattle.vr_model.specs.schedules.Tight.{IsChosenUnder, IsLatestStart, IsLeastEnd}
use Rattle.vr_model.specs.schedules.Narrowed.{between, chosen_under, narrowed}
use Rattle.vr_model.specs.declared.records.ScheduleRule.{ScheduleRule}
use Rattle.vr_model.specs.declared.records.ScheduleRule.TheVariants.{Tight}

-- one stop more than arcs
abbrev pub HasStops : Line → Type 0
HasStops line = length line.allowed ≡ suc (length line.arcs)

-- what is chosen of the narrowed line is what is chosen under the rule
abbrev pub NarrowedChooses : Type 0
NarrowedChooses = (rule : ScheduleRule) (line : Line) → HasStops line → (plan : Plan)
    → IsChosen (narrowed rule line) plan ↔ IsChosenUnder rule line plan

-- the function gives the schedule that is chosen under the rule
abbrev pub ChosenUnderIsChosen : Type 0
ChosenUnderIsChosen = (rule : ScheduleRule) (line : Line) → HasStops line → (plan : Plan)
    → (chosen_under rule line ≡ Some plan) ↔ IsChosenUnder rule line plan

-- the function gives a schedule exactly if the line is feasible
abbrev pub ChosenUnderWhereFeasible : Type 0
ChosenUnderWhereFeasible = (rule : ScheduleRule) (line : Line) → HasStops line
    → IsTrue (is_some (chosen_under rule line)) ↔ IsFeasible line

-- no two schedules are chosen under a rule
abbrev pub OneChosenUnder : Type 0
OneChosenUnder = (rule : ScheduleRule) (line : Line) → HasStops line → (plan other : Plan)
    → IsChosenUnder rule line plan → IsChosenUnder rule line other → plan ≡ other

-- a schedule of the narrowed line is one of the line
abbrev pub NarrowedKeepsRules : Type 0
NarrowedKeepsRules = (rule : ScheduleRule) (line : Line) → HasStops line → (plan : Plan)
    → IsSchedule (narrowed rule line) plan → IsSchedule line plan

-- if the least end and the latest start are known, the tight rule narrows the line to them
abbrev pub NarrowedToEnds : Type 0
NarrowedToEnds = (line : Line) → HasStops line → (s e : ℤ) → IsLeastEnd line e → IsLatestStart line e s
    → narrowed Tight line ≡ between line s e
