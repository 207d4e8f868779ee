-- Breaks of a line as a plan takes them.
use Rattle.std.specs.Prelude.{Bool, length, ℕ, ℤ, pos, cond}
use Rattle.std.specs.List.{list_any}
use Rattle.vr_model.specs.tables.Numbers.{below}
use Rattle.vr_model.specs.schedules.Lines.{Line}
use Rattle.vr_model.specs.schedules.Schedules.{Plan, is_inside, break_at}
use Rattle.vr_printed.specs.Printed.{plan_of}
use Rattle.vr_check.specs.declared.breaks.Taken.{Taken}

-- the plan
abbrev pub plan_of_taken : Taken → Plan
plan_of_taken it = plan_of it.of.plan.now

-- break i lies inside some arc
abbrev pub is_inside_some : Line → Plan → ℕ → Bool
is_inside_some line plan i = list_any (is_inside line plan i) (below (length line.arcs))

-- how long break i lies inside arc k
abbrev pub time_inside : Line → Plan → ℕ → ℕ → ℤ
time_inside line plan k i = cond (is_inside line plan i k) (break_at line i).duration (pos 0)
