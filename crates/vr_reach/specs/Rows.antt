-- Rows of levels along a line.
use Rattle.std.specs.Prelude.{◌≡◌, ℕ, ◌<◌, List, [], length, slice_index_or}
use Rattle.vr_spans.specs.declared.runs.Run.{Run}
use Rattle.vr_model.specs.schedules.Lines.{Line as Defined}
use Rattle.vr_steps.specs.declared.lines.Line.{Line}
use Rattle.vr_steps.specs.Levels.{AreLevels}
use Rattle.vr_steps.specs.Lines.{IsLineOf, IsSoundLine}
use Rattle.vr_steps.specs.Reached.{AreReached, AreReachingEnd}

-- levels of each stop, forwards and backwards
pub record BothWays : Type 0 where
  pub forward : List (List (List Run))
  pub backward : List (List (List Run))

-- the levels of stop k
abbrev pub row_at : List (List (List Run)) → ℕ → List (List Run)
row_at rows k = slice_index_or rows k []

-- the levels are what stop k of the line is reached at
pub record IsForwardRow (line : Line) (k : ℕ) (levels : List (List Run)) : Type 0 where
  pub form : AreLevels line.breaks levels
  pub exact : (defined : Defined) → IsLineOf defined line → AreReached defined k levels

-- the levels are what the end of the line is reached from at stop k
pub record IsBackwardRow (line : Line) (k : ℕ) (levels : List (List Run)) : Type 0 where
  pub form : AreLevels line.breaks levels
  pub exact : (defined : Defined) → IsLineOf defined line → AreReachingEnd defined k levels

-- the forward levels of all stops of a line
pub record AreForward (line : Line) (rows : List (List (List Run))) : Type 0 where
  pub row_of_each_stop : length rows ≡ length line.allowed
  pub each : (k : ℕ) → k < length line.allowed → IsForwardRow line k (row_at rows k)

-- the backward levels of all stops of a line
pub record AreBackward (line : Line) (rows : List (List (List Run))) : Type 0 where
  pub row_of_each_stop : length rows ≡ length line.allowed
  pub each : (k : ℕ) → k < length line.allowed → IsBackwardRow line k (row_at rows k)

-- the rows are those of a sound line
pub record AreRows (line : Line) (rows : BothWays) : Type 0 where
  pub sound : IsSoundLine line
  pub forward : AreForward line rows.forward
  pub backward : AreBackward line rows.backward
