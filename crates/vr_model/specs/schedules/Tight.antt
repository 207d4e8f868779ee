-- The chosen schedule of a line under the rule of its vehicle.
use Rattle.std.specs.Prelude.{◌≡◌, IsTrue, length, ℤ, ◌≤ℤ◌}
use Rattle.vr_model.specs.schedules.Lines.{Line}
use Rattle.vr_model.specs.schedules.Schedules.{Plan, IsChosen, IsSchedule, cumul, is_no_later}
use Rattle.vr_model.specs.declared.records.ScheduleRule.{ScheduleRule}
use Rattle.vr_model.specs.declared.records.ScheduleRule.TheVariants.{Earliest, Tight}

-- the cumul of a plan at the end of a line
abbrev pub end_of : Line → Plan → ℤ
end_of line plan = cumul plan (length line.arcs)

-- e is the least cumul at the end of all schedules of a line
pub record IsLeastEnd (line : Line) (e : ℤ) : Type 0 where
  pub reached : (plan : Plan) × IsSchedule line plan × (end_of line plan ≡ e)
  pub least : (other : Plan) → IsSchedule line other → e ≤ℤ end_of line other

-- s is the greatest cumul at the start of the schedules of a line that end at e
pub record IsLatestStart (line : Line) (e s : ℤ) : Type 0 where
  pub reached : (plan : Plan) × IsSchedule line plan × (end_of line plan ≡ e) × (cumul plan 0 ≡ s)
  pub greatest : (other : Plan) → IsSchedule line other → end_of line other ≡ e → cumul other 0 ≤ℤ s

-- the least of the schedules of a line that start at s and end at e
pub record IsLeastBetween (line : Line) (s e : ℤ) (plan : Plan) : Type 0 where
  pub schedule : IsSchedule line plan
  pub start_is : cumul plan 0 ≡ s
  pub end_is : end_of line plan ≡ e
  pub least : (other : Plan) → IsSchedule line other → cumul other 0 ≡ s → end_of line other ≡ e
      → IsTrue (is_no_later plan other)

-- The tight schedule. Its end is the least of all, and its start the greatest with that end. Of the schedules with both
-- it is the least.
pub record IsTight (line : Line) (plan : Plan) : Type 0 where
  pub s : ℤ
  pub e : ℤ
  pub least_end : IsLeastEnd line e
  pub latest_start : IsLatestStart line e s
  pub least_between : IsLeastBetween line s e plan

-- the chosen schedule under a rule
abbrev pub IsChosenUnder : ScheduleRule → Line → Plan → Type 0
IsChosenUnder Earliest line plan = IsChosen line plan
IsChosenUnder Tight line plan = IsTight line plan
