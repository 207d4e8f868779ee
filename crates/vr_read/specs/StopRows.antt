-- The tables of stop rows and of breaks.
use Rattle.std.specs.Prelude.{ℕ, ◌==◌, List, [], ◌∷◌, pos, int_lt, codes, Ok}
use Rattle.std.specs.List.{list_any}
use Rattle.vr_json.specs.declared.fault.Cause.TheVariants.{Repeated, Reversed}
use Rattle.vr_json.specs.Paths.{name_path}
use Rattle.vr_json.specs.Reading.{◌>>=◌, ReaderOf, required, optional, maybe, known, array, two_entries, refuse_if}
use Rattle.vr_json.specs.Kinds.{whole, below}
use Rattle.vr_model.specs.tables.Numbers.{horizon}
use Rattle.vr_model.specs.tables.Limits.{greatest_coefficient}
use Rattle.vr_model.specs.declared.records.StopRow.{StopRow}
use Rattle.vr_model.specs.declared.records.Interval.{Interval}
use Rattle.vr_model.specs.declared.records.Soft.{Soft}
use Rattle.vr_model.specs.declared.records.VehicleBreaks.{VehicleBreaks}
use Rattle.vr_model.specs.declared.records.BreakRow.{BreakRow}
use Rattle.vr_read.specs.declared.stop_rows.StopLimits.{StopLimits}

-- an interval: an array of two whole numbers, the second not below the first
unfoldable pub interval : ReaderOf Interval
interval path d = do
  ends ← two_entries (whole (pos 0) horizon) path d
  ordered ← refuse_if (int_lt ends.1 ends.0) Reversed path
  Ok (record { lo = ends.0; hi = ends.1 })

-- a soft upper bound
unfoldable pub soft : ReaderOf Soft
soft path d = do
  bound ← required (codes "bound") (whole (pos 0) horizon) path d
  coefficient ← required (codes "coefficient") (whole (pos 0) greatest_coefficient) path d
  others ← known (codes "bound" ∷ codes "coefficient" ∷ []) path d
  Ok (record { bound = bound; coefficient = coefficient })

-- the window of a stop, its forbidden intervals and its soft bound
unfoldable pub limits : ReaderOf StopLimits
limits path d = do
  window ← maybe (codes "window") interval path d
  forbidden ← optional (codes "forbidden") [] (array 0 16 (λ so_far. interval)) path d
  soft_bound ← maybe (codes "soft") soft path d
  Ok (record { window = window; forbidden = forbidden; soft = soft_bound })

-- a stop row, whose key is that of no earlier row
unfoldable pub stop_row : List ℕ → ReaderOf ℕ → List StopRow → ReaderOf StopRow
stop_row name read_key earlier path d = do
  key ← required name read_key path d
  fresh ← refuse_if (list_any (λ row. row.key == key) earlier) Repeated (name_path path name)
  within ← limits path d
  others ← known (name ∷ codes "window" ∷ codes "forbidden" ∷ codes "soft" ∷ []) path d
  Ok (record { key = key; window = within.window; forbidden = within.forbidden; soft = within.soft })

-- a break: a start range and a duration
unfoldable pub break_row : ReaderOf BreakRow
break_row path d = do
  earliest ← required (codes "from") (whole (pos 0) horizon) path d
  latest ← required (codes "to") (whole (pos 0) horizon) path d
  duration ← required (codes "duration") (whole (pos 1) horizon) path d
  others ← known (codes "from" ∷ codes "to" ∷ codes "duration" ∷ []) path d
  ordered ← refuse_if (int_lt latest earliest) Reversed path
  Ok (record { from = earliest; to = latest; duration = duration })

-- the breaks of one of this many vehicles, which has no earlier entry
unfoldable pub vehicle_breaks : ℕ → List VehicleBreaks → ReaderOf VehicleBreaks
vehicle_breaks vehicles earlier path d = do
  vehicle ← required (codes "vehicle") (below vehicles) path d
  fresh ← refuse_if (list_any (λ entry. entry.vehicle == vehicle) earlier) Repeated (name_path path (codes "vehicle"))
  rows ← required (codes "breaks") (array 1 8 (λ so_far. break_row)) path d
  others ← known (codes "vehicle" ∷ codes "breaks" ∷ []) path d
  Ok (record { vehicle = vehicle; rows = rows })
