-- A line: what a dimension asks of one vehicle with one list, stop by stop and arc by arc.
use Rattle.std.specs.Prelude.{ℕ, Bool, true, not, ◌&&◌, ◌||◌, List, [], ◌∷◌, ◌++◌, map, ℤ, pos, Option, Some, None}
use Rattle.std.specs.List.{list_all}
use Rattle.vr_model.specs.tables.Numbers.{number_at, within, is_same_number}
use Rattle.vr_model.specs.tables.Tables.{dimension_at, transit, row_of, breaks_of}
use Rattle.vr_model.specs.routes.Routes.{UsedArc, arcs_between}
use Rattle.vr_model.specs.declared.records.Model.{Model}
use Rattle.vr_model.specs.declared.records.Dimension.{Dimension}
use Rattle.vr_model.specs.declared.records.Interval.{Interval}
use Rattle.vr_model.specs.declared.records.StopRow.{StopRow}
use Rattle.vr_model.specs.declared.records.BreakRow.{BreakRow}

-- an arc of a line: its transit, and the visit time of the node at which it begins
pub record Arc : Type 0 where
  pub transit : ℤ
  pub visit : ℤ

-- a line: which cumuls each stop allows, the arcs, the greatest slack, and the breaks in order
pub record Line : Type 0 where
  pub allowed : List (ℤ → Bool)
  pub arcs : List Arc
  pub slack_max : ℤ
  pub breaks : List BreakRow

-- x lies in the window, if there is one
abbrev pub in_window : Option Interval → ℤ → Bool
in_window None x = true
in_window (Some window) x = within window.lo window.hi x

-- the row of a stop lets x be its cumul: x is in its window and in none of its forbidden intervals
abbrev pub row_allows : Option StopRow → ℤ → Bool
row_allows None x = true
row_allows (Some row) x =
    in_window row.window x && list_all (λ interval. not (within interval.lo interval.hi x)) row.forbidden

-- a stop allows x: x is in 0..=capacity, and the row of the stop lets it
abbrev pub stop_allows : ℤ → Option StopRow → ℤ → Bool
stop_allows capacity row x = within (pos 0) capacity x && row_allows row x

-- the same at a start, which is 0 if the dimension fixes it
abbrev pub start_allows : Dimension → ℤ → Option StopRow → ℤ → Bool
start_allows dimension capacity row x =
    stop_allows capacity row x && (not dimension.fix_start || is_same_number x (pos 0))

-- the rows of the stops of vehicle v with a list: of its start, of the visits, and of its end
abbrev pub stop_rows : Dimension → ℕ → List ℕ → List (Option StopRow)
stop_rows dimension v list =
    row_of dimension.starts v ∷ (map (row_of dimension.nodes) list ++ row_of dimension.ends v ∷ [])

-- what an arc of vehicle v asks in dimension d: its transit, and the visit time of the node at which it begins
abbrev pub line_arc : Model → ℕ → ℕ → UsedArc → Arc
line_arc model d v arc = record {
  transit = transit model d v arc.origin arc.target;
  visit = number_at (dimension_at model d).visit arc.origin;
}

-- the line of vehicle v with a list in dimension d
abbrev pub line : Model → ℕ → ℕ → List ℕ → Line
line model d v list =
    let dimension = dimension_at model d in
    let capacity = number_at dimension.capacities v in
    record {
      allowed = start_allows dimension capacity (row_of dimension.starts v)
          ∷ (map (λ node. stop_allows capacity (row_of dimension.nodes node)) list
          ++ stop_allows capacity (row_of dimension.ends v) ∷ []);
      arcs = map (line_arc model d v) (arcs_between model v list);
      slack_max = dimension.slack_max;
      breaks = breaks_of dimension v;
    }
