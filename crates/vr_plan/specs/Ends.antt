-- The ends of a line, and the line that allows some of them alone.
use Rattle.std.specs.Prelude.{◌≡◌, ℕ, ℤ, ◌≤ℤ◌}
use Rattle.vr_model.specs.schedules.Lines.{Line as Defined}
use Rattle.vr_model.specs.schedules.Schedules.{Plan, IsSchedule, cumul}
use Rattle.vr_model.specs.schedules.ChosenLaws.{pinned}
use Rattle.vr_model.specs.schedules.Tight.{IsLeastEnd}
use Rattle.vr_model.specs.schedules.Narrowed.{narrowed}
use Rattle.vr_model.specs.declared.records.ScheduleRule.TheVariants.{Tight}
use Rattle.vr_steps.specs.declared.lines.Line.{Line}
use Rattle.vr_steps.specs.Lines.{IsLineOf}

-- e is the least cumul at the end of all schedules of the line
abbrev pub IsLeastEndOf : Line → ℤ → Type 0
IsLeastEndOf line e = (defined : Defined) → IsLineOf defined line → IsLeastEnd defined e

-- s is the greatest cumul that schedules have at the start
pub record IsGreatestStart (line : Defined) (s : ℤ) : Type 0 where
  pub reached : (plan : Plan) × IsSchedule line plan × (cumul plan 0 ≡ s)
  pub greatest : (other : Plan) → IsSchedule line other → cumul other 0 ≤ℤ s

-- s is the greatest cumul at the start of all schedules of the line
abbrev pub IsLatestOf : Line → ℤ → Type 0
IsLatestOf line s = (defined : Defined) → IsLineOf defined line → IsGreatestStart defined s

-- the other line is the line whose stop k allows x alone
abbrev pub IsPinnedOf : Line → ℕ → ℤ → Line → Type 0
IsPinnedOf line k x narrow = (defined : Defined) → IsLineOf defined line → IsLineOf (pinned defined k x) narrow

-- the other line is the line whose end allows the least end alone, and whose start the latest start with that end alone
abbrev pub IsTightLineOf : Line → Line → Type 0
IsTightLineOf line narrow = (defined : Defined) → IsLineOf defined line → IsLineOf (narrowed Tight defined) narrow
