-- What is asked of a list that comes in the place of another one.
use Rattle.std.specs.Prelude.{◌≡◌, ◌+◌, ℕ, IfSome, List, Option, is_some, length}
use Rattle.vr_model.specs.routes.Routes.{route}
use Rattle.vr_model.specs.schedules.Choices.{is_feasible}
use Rattle.vr_model.specs.schedules.Lines.{line, Line}
use Rattle.vr_model.specs.schedules.Narrowed.{chosen_line}
use Rattle.vr_model.specs.declared.records.Model.{Model}
use Rattle.vr_plan.specs.Timings.{IsTiming, IsTimingOf}
use Rattle.vr_plan.specs.declared.timings.Timing.{Timing}
use Rattle.vr_routes.specs.Pieces.{joined}
use Rattle.vr_model.specs.declared.records.ScheduleRule.{ScheduleRule}
use Rattle.vr_costfilter.specs.GuideRuns.{IsGuideBy}
use Rattle.vr_costfilter.specs.Kept.{IsKept}
use Rattle.vr_costfilter.specs.Runs.{Runs, AllowsRuns}
use Rattle.vr_costfilter.specs.declared.changed_list.Asked.{Asked}
use Rattle.vr_costfilter.specs.declared.kept.KeptList.{KeptList}

-- the list that the vehicle has
abbrev pub old_list : Asked → List ℕ
old_list asked = route asked.routes.now.lists asked.guide.now.v

-- the list that is asked of
abbrev pub new_list : Asked → List ℕ
new_list asked = joined asked.routes.now.lists asked.pieces.now

-- its line
abbrev pub new_line : Asked → Line
new_line asked = line asked.guide.now.model.now asked.guide.now.d asked.guide.now.v (new_list asked)

-- the line of which its schedule is chosen
abbrev pub new_choice : Asked → Line
new_choice asked = chosen_line asked.guide.now.model.now asked.guide.now.d asked.guide.now.v (new_list asked)

-- that line allows these runs
abbrev pub ChoiceAllows : Asked → Runs → Type 0
ChoiceAllows asked runs = AllowsRuns asked.guide.now.model.now asked.guide.now.d asked.guide.now.v runs (new_list asked)
    (new_choice asked)

-- what its chosen schedule comes to
abbrev pub IsNewTiming : Asked → Timing → Type 0
IsNewTiming asked = IsTiming asked.guide.now.model.now asked.guide.now.d asked.guide.now.v (new_list asked)

-- what the chosen schedule of a list of vehicle v comes to, nothing exactly if there is none
pub record IsTimingFound (model : Model) (d v : ℕ) (list : List ℕ) (found : Option Timing) : Type 0 where
  pub known : is_some found ≡ is_feasible (chosen_line model d v list)
  pub timing : IfSome found (IsTiming model d v list)
  pub range : IfSome found (IsTimingOf (length list + 2))

-- that of the list that is asked of
abbrev pub IsNewTimingFound : Asked → Option Timing → Type 0
IsNewTimingFound asked = IsTimingFound asked.guide.now.model.now asked.guide.now.d asked.guide.now.v (new_list asked)

-- the guide has the runs of its vehicle, whose schedules are chosen by this rule. What is kept is of the list that the
-- vehicle has.
pub record IsKeptBy (rule : ScheduleRule) (asked : Asked) (kept : KeptList) : Type 0 where
  pub by : IsGuideBy rule asked.guide.now
  pub of_old : IsKept asked.guide.now.model.now asked.guide.now.d asked.guide.now.v (old_list asked) kept
