-- The place at which a walk meets the rows of a line.
use Rattle.std.specs.Prelude.{◌≡◌, ℕ, ◌≤◌, List, length, sum_by}
use Rattle.vr_model.specs.declared.records.BreakRow.{BreakRow}
use Rattle.vr_spans.specs.declared.runs.Run.{Run}
use Rattle.vr_model.specs.schedules.Lines.{Line}
use Rattle.vr_model.specs.schedules.SoundLines.{IsSound}
use Rattle.vr_steps.specs.Levels.{AreLevels}
use Rattle.vr_steps.specs.Reached.{AreReached, AreReachingEnd}

-- the first levels are what stop k of a line is reached at, the others what its end is reached from there
pub record Meets (line : Line) (k : ℕ) (ahead behind : List (List Run)) : Type 0 where
  pub sound : IsSound line
  pub stop : k ≤ length line.arcs
  pub ahead_form : AreLevels line.breaks ahead
  pub behind_form : AreLevels line.breaks behind
  pub reached : AreReached line k ahead
  pub reaching : AreReachingEnd line k behind

-- the levels are what the last stop of a line with these breaks is reached at
pub record EndsAt (line : Line) (breaks : List BreakRow) (levels : List (List Run)) : Type 0 where
  pub sound : IsSound line
  pub breaks_are : line.breaks ≡ breaks
  pub reached : AreReached line (length line.arcs) levels

-- how many runs the sets have together
abbrev pub runs_in : List (List Run) → ℕ
runs_in levels = sum_by length levels
