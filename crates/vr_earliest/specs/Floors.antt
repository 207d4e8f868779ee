-- Floors: numbers below which a stop allows no cumul.
use Rattle.std.specs.Prelude.{◌≡◌, ℕ, ◌<◌, ◌&&◌, Bool, true, false, List, length, fold, cond, ℤ, pos, ◌+ℤ◌}
use Rattle.std.specs.Prelude.{Option, Some, None, slice_index_or}
use Rattle.std.specs.Int.{int_min}
use Rattle.vr_model.specs.tables.Numbers.{horizon, number_at, within}
use Rattle.vr_model.specs.tables.Tables.{breaks_of, dimension_at, no_vehicle, row_of}
use Rattle.vr_model.specs.tables.WellFormed.{IsIn, IsWellFormed}
use Rattle.vr_model.specs.routes.Routes.{is_empty}
use Rattle.vr_model.specs.declared.records.Model.{Model}
use Rattle.vr_model.specs.declared.records.Dimension.{Dimension}
use Rattle.vr_model.specs.declared.records.Interval.{Interval}
use Rattle.vr_model.specs.declared.records.ScheduleRule.{ScheduleRule}
use Rattle.vr_model.specs.declared.records.ScheduleRule.TheVariants.{Earliest, Tight}
use Rattle.vr_model.specs.declared.records.StopRow.{StopRow}
use Rattle.vr_model.specs.declared.records.Vehicle.{Vehicle}
use Rattle.vr_earliest.specs.declared.floors.Floors.{Floors}

-- x, or the number after a forbidden interval if x lies in it
abbrev pub behind_interval : ℤ → Interval → ℤ
behind_interval x interval = cond (within interval.lo interval.hi x) (interval.hi +ℤ pos 1) x

-- the begin of a window, 0 if there is none
abbrev pub opening : Option Interval → ℤ
opening None = pos 0
opening (Some window) = window.lo

-- the floor of a stop with this row: the begin of its window, after each forbidden interval in turn, at most the
-- horizon
abbrev pub floor_of : Option StopRow → ℤ
floor_of None = pos 0
floor_of (Some row) = int_min horizon (fold behind_interval (opening row.window) row.forbidden)

-- the row of a stop has no forbidden interval
abbrev pub forbids_none : Option StopRow → Bool
forbids_none None = true
forbids_none (Some row) = is_empty row.forbidden

-- the rule chooses the earliest schedule
abbrev pub is_earliest : ScheduleRule → Bool
is_earliest Earliest = true
is_earliest Tight = false

-- vehicle v chooses its earliest schedule, has no breaks, and its start has no forbidden interval
abbrev pub starts_freely : Vehicle → Dimension → ℕ → Bool
starts_freely vehicle dimension v = (is_earliest vehicle.schedule && is_empty (breaks_of dimension v))
    && forbids_none (row_of dimension.starts v)

-- the floor of a visit
abbrev pub visit_floor : Model → ℕ → ℕ → ℤ
visit_floor model d node = floor_of (row_of (dimension_at model d).nodes node)

-- the floor of the start of vehicle v
abbrev pub start_floor : Model → ℕ → ℕ → ℤ
start_floor model d v = floor_of (row_of (dimension_at model d).starts v)

-- the floor of its end
abbrev pub end_floor : Model → ℕ → ℕ → ℤ
end_floor model d v = floor_of (row_of (dimension_at model d).ends v)

-- for each key below n the floor of the row with it
pub record HaveFloors (rows : List StopRow) (n : ℕ) (floors : List ℤ) : Type 0 where
  pub many : length floors ≡ n
  pub each : (key : ℕ) → key < n → number_at floors key ≡ floor_of (row_of rows key)
  pub range : (key : ℕ) → key < n → IsIn (pos 0) horizon (number_at floors key)

-- which of the first n vehicles start freely
pub record AreFree (vehicles : List Vehicle) (dimension : Dimension) (n : ℕ) (free : List Bool) : Type 0 where
  pub many : length free ≡ n
  pub each : (v : ℕ) (other : Bool) → v < n
      → slice_index_or free v other ≡ starts_freely (slice_index_or vehicles v no_vehicle) dimension v

-- the floors of the visits, the starts and the ends of a dimension, and which vehicles start freely
pub record AreFloors (model : Model) (d : ℕ) (floors : Floors) : Type 0 where
  pub visits : HaveFloors (dimension_at model d).nodes model.nodes floors.visits.items
  pub starts : HaveFloors (dimension_at model d).starts (length model.vehicles) floors.starts.items
  pub ends : HaveFloors (dimension_at model d).ends (length model.vehicles) floors.ends.items
  pub free : AreFree model.vehicles (dimension_at model d) (length model.vehicles) floors.free.items

-- the same of each dimension
pub record AreAllFloors (model : Model) (floors : List Floors) : Type 0 where
  pub many : length floors ≡ length model.dimensions
  pub each : (d : ℕ) (other : Floors) → d < length floors → AreFloors model d (slice_index_or floors d other)

-- the model is well formed, and the floors are those of its dimensions
pub record AreOfModel (model : Model) (floors : List Floors) : Type 0 where
  pub well_formed : IsWellFormed model
  pub floors_are : AreAllFloors model floors
