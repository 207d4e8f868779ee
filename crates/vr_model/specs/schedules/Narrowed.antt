-- The line that a rule narrows another one to: what is chosen of it is chosen under the rule.
use Rattle.std.specs.Prelude.{ℕ, Bool, List, Option, ℤ, pos, ◌-ℤ◌, length}
use Rattle.std.proofs.Common.{inl, inr}
use Rattle.vr_model.specs.tables.Numbers.{horizon, is_same_number}
use Rattle.vr_model.specs.tables.Tables.{vehicle_at}
use Rattle.vr_model.specs.schedules.Lines.{Line, line}
use Rattle.vr_model.specs.declared.records.Model.{Model}
use Rattle.vr_model.specs.schedules.Schedules.{Plan, both_sides, cumul}
use Rattle.vr_model.specs.schedules.Choices.{chosen, was_found}
use Rattle.vr_model.specs.schedules.ChosenLaws.{pinned}
use Rattle.vr_model.specs.deciding.ChosenSchedule.{find_plan}
use Rattle.vr_model.specs.schedules.Tight.{end_of}
use Rattle.vr_model.specs.deciding.LeastCumul.{LeastFound, find_least}
use Rattle.vr_model.specs.declared.records.ScheduleRule.{ScheduleRule}
use Rattle.vr_model.specs.declared.records.ScheduleRule.TheVariants.{Earliest, Tight}

-- whether some schedule of a line measures x
abbrev pub measures : (Plan → ℤ) → Line → ℤ → Bool
measures measure line x = was_found (find_plan both_sides (λ plan. is_same_number x (measure plan)) line)

-- the number that was found, 0 if there is none
abbrev pub number_found : (test : ℤ → Bool) → LeastFound test → ℤ
number_found test found = elim found [ inl r ↦ r.0 | inr none ↦ pos 0 ]

-- the least measure in 0..=horizon of the schedules of a line, 0 if there is none
abbrev pub least_of : (Plan → ℤ) → Line → ℤ
least_of measure line = number_found (measures measure line) (find_least (measures measure line))

-- the least cumul at the end of all schedules of a line, 0 if there is none
abbrev pub least_end : Line → ℤ
least_end line = least_of (end_of line) line

-- how long before the horizon a plan starts
abbrev pub before_horizon : Plan → ℤ
before_horizon plan = horizon -ℤ cumul plan 0

-- the greatest cumul at the start of all schedules of a line, the horizon if there is none
abbrev pub latest_start : Line → ℤ
latest_start line = horizon -ℤ least_of before_horizon line

-- The line whose end allows e alone, and whose start allows s alone. A stop that did not allow its number allows
-- nothing.
abbrev pub between : Line → ℤ → ℤ → Line
between line s e = pinned (pinned line (length line.arcs) e) 0 s

-- the line whose end allows its least cumul alone
abbrev pub ending_first : Line → Line
ending_first line = pinned line (length line.arcs) (least_end line)

-- The line narrowed by a rule. The earliest rule leaves it as it is. The tight rule narrows its end to the least cumul
-- that schedules have there. It then narrows its start to the greatest that schedules with this end have.
abbrev pub narrowed : ScheduleRule → Line → Line
narrowed Earliest line = line
narrowed Tight line = between line (latest_start (ending_first line)) (least_end line)

-- the chosen schedule under a rule, if there is one
abbrev pub chosen_under : ScheduleRule → Line → Option Plan
chosen_under rule line = chosen (narrowed rule line)

-- the line of which the schedule of vehicle v with a list is chosen, in dimension d
abbrev pub chosen_line : Model → ℕ → ℕ → List ℕ → Line
chosen_line model d v list = narrowed (vehicle_at model v).schedule (line model d v list)
