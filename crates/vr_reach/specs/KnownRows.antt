-- The rows of a list.
use Rattle.std.specs.Prelude.{◌≡◌, ℕ, suc, ◌-◌, ◌<◌, ◌≤◌, false, List, length}
use Rattle.vr_spans.specs.declared.runs.Run.{Run}
use Rattle.vr_model.specs.tables.Tables.{breaks_of, dimension_at}
use Rattle.vr_model.specs.routes.Routes.{is_empty}
use Rattle.vr_model.specs.schedules.Lines.{line}
use Rattle.vr_model.specs.declared.records.Model.{Model}
use Rattle.vr_reach.specs.Rows.{BothWays, row_at}
use Rattle.vr_reach.specs.declared.known_list.KnownList.{KnownList}
use Rattle.vr_reach.specs.declared.stops.StopsFor.{StopsFor}
use Rattle.vr_steps.specs.Levels.{AreLevels}
use Rattle.vr_steps.specs.Reached.{AreReachingEnd}
use Rattle.vr_reach.specs.Standing.{IsReachedAt}

-- the levels are what the end is reached from at stop k of a list of vehicle v in dimension d
pub record IsReachingFrom (model : Model) (d v : ℕ) (list : List ℕ) (k : ℕ) (levels : List (List Run)) : Type 0 where
  pub form : AreLevels (breaks_of (dimension_at model d) v) levels
  pub reaching : AreReachingEnd (line model d v list) k levels

-- the levels of each stop are what the list reaches there
pub record AreReachedRows (model : Model) (d v : ℕ) (list : List ℕ) (rows : List (List (List Run))) : Type 0 where
  pub row_of_each_stop : length rows ≡ suc (suc (length list))
  pub each : (k : ℕ) → k ≤ suc (length list) → IsReachedAt model d v list k (row_at rows k)

-- the levels of each stop are what the end is reached from there
pub record AreReachingRows (model : Model) (d v : ℕ) (list : List ℕ) (rows : List (List (List Run))) : Type 0 where
  pub row_of_each_stop : length rows ≡ suc (suc (length list))
  pub each : (k : ℕ) → k ≤ suc (length list) → IsReachingFrom model d v list k (row_at rows k)

-- the rows are those of the line of a list
pub record AreRowsOf (model : Model) (d v : ℕ) (list : List ℕ) (rows : BothWays) : Type 0 where
  pub forward : AreReachedRows model d v list rows.forward
  pub backward : AreReachingRows model d v list rows.backward

-- the rows are those of the line of a list, if it is not empty
abbrev pub AreRowsIfUsed : Model → ℕ → ℕ → List ℕ → BothWays → Type 0
AreRowsIfUsed model d v list rows = is_empty list ≡ false → AreRowsOf model d v list rows

-- a list of the vehicle, with its rows if it is not empty
abbrev pub IsKnownList : StopsFor → KnownList → Type 0
IsKnownList stops known = AreRowsIfUsed stops.closed.model.now stops.d stops.v known.list.now known.rows.now

-- the first n levels are what the list reaches at its first n stops
pub record AreFirstRows (model : Model) (d v : ℕ) (list : List ℕ) (n : ℕ) (rows : List (List (List Run))) : Type 0 where
  pub within : n ≤ suc (suc (length list))
  pub there : n ≤ length rows
  pub each : (k : ℕ) → k < n → IsReachedAt model d v list k (row_at rows k)

-- the last n levels are what the end is reached from at its last n stops
pub record AreLastRows (model : Model) (d v : ℕ) (list : List ℕ) (n : ℕ) (rows : List (List (List Run))) : Type 0 where
  pub within : n ≤ suc (suc (length list))
  pub there : n ≤ length rows
  pub each : (j : ℕ) → j < n
      → IsReachingFrom model d v list (suc (length list) - j) (row_at rows (length rows - suc j))
