-- The runs of cumuls that the stops of a vehicle allow.
use Rattle.std.specs.Prelude.{◌≡◌, ◌≤◌, ℕ, List, [], ◌∷◌, ◌++◌, ℤ, length, map, pos, slice_index_or}
use Rattle.std.specs.Prelude.{Option, None, Some}
use Rattle.vr_spans.specs.declared.runs.Run.{Run}
use Rattle.vr_model.specs.tables.Tables.{breaks_of, dimension_at}
use Rattle.vr_model.specs.schedules.Lines as lines
use Rattle.vr_model.specs.schedules.Lines.{Line}
use Rattle.vr_model.specs.schedules.RuleLaws.{HasStops}
use Rattle.vr_model.specs.declared.records.Model.{Model}
use Rattle.vr_steps.specs.Stops.{allowed_by}
use Rattle.vr_steps.specs.declared.stops.StopName.TheVariants.{Start, End}
use Rattle.vr_reach.specs.VisitRuns.{AreVisitRuns, IsAllowedRun, IsRunFor}

-- the run of cumuls that each stop of a vehicle allows: its start, the visits by their nodes, and its end
pub record Runs : Type 0 where
  pub start : Run
  pub visits : List Run
  pub finish : Run

-- these runs are what the stops of vehicle v allow in dimension d, and it has no breaks there
pub record AreRuns (model : Model) (d v : ℕ) (runs : Runs) : Type 0 where
  pub no_breaks : breaks_of (dimension_at model d) v ≡ []
  pub start : IsRunFor (allowed_by model d v Start) runs.start
  pub visits : AreVisitRuns model d v runs.visits
  pub finish : IsRunFor (allowed_by model d v End) runs.finish

-- the run of no cumul
abbrev pub no_run : Run
no_run = record { lo = pos 1; hi = pos 0 }

-- the runs of the stops of a list in order
abbrev pub stop_runs : Runs → List ℕ → List Run
stop_runs runs list =
    runs.start ∷ (map (λ node. slice_index_or runs.visits node no_run) list ++ runs.finish ∷ [])

-- the run of stop k
abbrev pub run_at : List Run → ℕ → Run
run_at runs k = slice_index_or runs k no_run

-- a line without breaks, whose stops allow these runs in order
pub record HasRuns (line : Line) (runs : List Run) : Type 0 where
  pub stops : HasStops line
  pub no_breaks : line.breaks ≡ []
  pub each : (k : ℕ) → k ≤ length line.arcs → IsAllowedRun line k (run_at runs k)

-- a line of the arcs of vehicle v with a list in dimension d, and of its greatest slack, whose stops allow these runs
pub record AllowsRuns (model : Model) (d v : ℕ) (runs : Runs) (list : List ℕ) (line : Line) : Type 0 where
  pub arcs : line.arcs ≡ (lines.line model d v list).arcs
  pub slack_max : line.slack_max ≡ (dimension_at model d).slack_max
  pub has : HasRuns line (stop_runs runs list)

-- the run of one cumul
abbrev pub only : ℤ → Run
only x = record { lo = x; hi = x }

-- the runs if the start allows s alone, and the end e
abbrev pub between_runs : Runs → ℤ → ℤ → Runs
between_runs runs s e = record { start = only s; visits = runs.visits; finish = only e }

-- the runs of a vehicle if its start allows this one
abbrev pub starting : Runs → Run → Runs
starting runs start = record { start = start; visits = runs.visits; finish = runs.finish }

-- the run of the start, which is one cumul if that is given
abbrev pub start_run : Runs → Option ℤ → Run
start_run runs None = runs.start
start_run runs (Some s) = only s
