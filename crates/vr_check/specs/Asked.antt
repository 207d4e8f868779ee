-- A line of which each number is looked up when it is asked for.
use Rattle.std.specs.Prelude.{ℕ, ◌+◌, ◌==◌, ◌||◌, not, Bool, ℤ, pos, List, length}
use Rattle.std.specs.Prelude.{slice_index_or, Option, None}
use Rattle.vr_model.specs.tables.Numbers.{number_at, is_same_number}
use Rattle.vr_model.specs.tables.Tables.{dimension_at}
use Rattle.vr_model.specs.routes.Routes.{stops}
use Rattle.vr_model.specs.schedules.Lines.{Line, line, stop_rows, stop_allows}
use Rattle.vr_model.specs.declared.records.StopRow.{StopRow}
use Rattle.vr_check.specs.declared.asked_line.AskedLine.{AskedLine}

-- the line that is asked
abbrev pub asked_line : AskedLine → Line
asked_line it = line it.model.now it.d it.v it.list.now

-- how many arcs it has
abbrev pub arc_count : AskedLine → ℕ
arc_count it = length it.list.now + 1

-- the node at stop k
abbrev pub stop_node : AskedLine → ℕ → ℕ
stop_node it k = slice_index_or (stops it.model.now it.v it.list.now) k 0

-- the rows of its stops
abbrev pub stop_rows_of : AskedLine → List (Option StopRow)
stop_rows_of it = stop_rows (dimension_at it.model.now it.d) it.v it.list.now

-- the row of stop k
abbrev pub row_at_stop : AskedLine → ℕ → Option StopRow
row_at_stop it k = slice_index_or (stop_rows_of it) k None

-- the capacity of the vehicle and the row of stop k allow a cumul
abbrev pub is_let : AskedLine → ℕ → ℤ → Bool
is_let it k x = stop_allows (number_at (dimension_at it.model.now it.d).capacities it.v) (row_at_stop it k) x

-- the start is 0 if the dimension fixes it
abbrev pub keeps_fixed_start : AskedLine → ℕ → ℤ → Bool
keeps_fixed_start it k x = not (k == 0) || (not (dimension_at it.model.now it.d).fix_start || is_same_number x (pos 0))
