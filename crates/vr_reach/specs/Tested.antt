-- What is reached at a stop of a line, and what reaches its end from there, by the tests of the definitions.
use Rattle.std.specs.Prelude.{◌≡◌, ℕ, ◌≤◌, List, length, ℤ}
use Rattle.vr_spans.specs.declared.runs.Run.{Run}
use Rattle.vr_spans.specs.Runs.{has}
use Rattle.vr_model.specs.schedules.Lines.{Line}
use Rattle.vr_model.specs.schedules.Choices.{is_reached, reaches_end}
use Rattle.vr_steps.specs.Levels.{AreLevels, level_at}

-- the levels are what is reached at stop k
pub record IsReachedBy (line : Line) (k : ℕ) (levels : List (List Run)) : Type 0 where
  pub form : AreLevels line.breaks levels
  pub exact : (b : ℕ) → b ≤ length line.breaks → (x : ℤ) → has (level_at levels b) x ≡ is_reached line k b x

-- the levels are those of stop k from which the end is reached
pub record IsReachingBy (line : Line) (k : ℕ) (levels : List (List Run)) : Type 0 where
  pub form : AreLevels line.breaks levels
  pub exact : (b : ℕ) → b ≤ length line.breaks → (x : ℤ) → has (level_at levels b) x ≡ reaches_end line k b x
