-- One run of cumuls that is reached at a stop.
use Rattle.std.specs.Prelude.{◌≡◌, ◌↔◌, ℕ, Bool, ◌==◌, ◌&&◌, IsTrue, List, length, ℤ, pos, ◌≤ℤ◌}
use Rattle.vr_spans.specs.declared.runs.Run.{Run}
use Rattle.vr_spans.specs.Runs.{has, in_run}
use Rattle.vr_model.specs.tables.Numbers.{horizon}
use Rattle.vr_model.specs.tables.Tables.{breaks_of, dimension_at}
use Rattle.vr_model.specs.routes.Routes.{is_empty}
use Rattle.vr_model.specs.schedules.Lines.{Line}
use Rattle.vr_model.specs.schedules.Schedules.{IsReached, ReachesEnd}
use Rattle.vr_model.specs.declared.records.BreakRow.{BreakRow}
use Rattle.vr_model.specs.declared.records.Model.{Model}
use Rattle.vr_steps.specs.declared.stops.StopName.TheVariants.{End}
use Rattle.vr_steps.specs.Levels.{level_at}
use Rattle.vr_steps.specs.CumulRuns.{IsCumulRun}
use Rattle.vr_steps.specs.Stops.{allowed_by}
use Rattle.vr_reach.specs.VisitRuns.{is_one_run}

-- the set has the numbers of the run, which are cumuls, and one at least
pub record IsOnlyRun (set : List Run) (run : Run) : Type 0 where
  pub exact : (x : ℤ) → has set x ≡ in_run run x
  pub cumuls : IsCumulRun run

-- the set is of one run
abbrev pub is_run : List Run → Bool
is_run set = length set == 1

-- there are no breaks, and both levels are of one run
abbrev pub are_runs : List BreakRow → List (List Run) → List (List Run) → Bool
are_runs breaks from to = is_empty breaks && is_run (level_at from 0) && is_run (level_at to 0)

-- there is one run to walk with between two levels. The vehicle has no breaks, its end allows no more than one, and
-- both levels are of one
abbrev pub is_one_run_each : Model → ℕ → ℕ → List (List Run) → List (List Run) → Bool
is_one_run_each model d v from to = is_one_run (allowed_by model d v End)
    && are_runs (breaks_of (dimension_at model d) v) from to

-- each number of the run is reached at stop k with b breaks taken; if b is 0, no other number is
pub record IsReachedRun (line : Line) (k b : ℕ) (run : Run) : Type 0 where
  pub reached : (x : ℤ) → IsTrue (in_run run x) → IsReached line k b x
  pub all : b ≡ 0 → (x : ℤ) → IsReached line k b x → IsTrue (in_run run x)

-- the run has the numbers of stop k from which the end is reached with b breaks taken
abbrev pub IsReachingRun : Line → ℕ → ℕ → Run → Type 0
IsReachingRun line k b run = (x : ℤ) → IsTrue (in_run run x) ↔ ReachesEnd line k b x
