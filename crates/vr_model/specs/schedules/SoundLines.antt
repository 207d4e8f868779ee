-- What a line of a well-formed model keeps.
use Rattle.std.specs.Prelude.{◌≡◌, ℕ, suc, ◌<◌, false, IsTrue, List, length, pos, ◌≤ℤ◌, EachIndex}
use Rattle.std.specs.List.{list_all}
use Rattle.vr_model.specs.tables.Tables.{is_visit}
use Rattle.vr_model.specs.routes.Routes.{is_empty, is_distinct}
use Rattle.vr_model.specs.tables.WellFormed.{IsWellFormed}
use Rattle.vr_model.specs.schedules.Lines.{Line, line}
use Rattle.vr_model.specs.schedules.Schedules.{arc_at, break_at}
use Rattle.vr_model.specs.declared.records.Model.{Model}

-- There is one stop more than arcs. Visit times are not negative, and breaks are of at least 1. If there are breaks, no
-- transit is negative.
pub record IsSound (line : Line) : Type 0 where
  pub stops : length line.allowed ≡ suc (length line.arcs)
  pub visits : EachIndex line.arcs (λ k. pos 0 ≤ℤ (arc_at line k).visit)
  pub durations : EachIndex line.breaks (λ i. pos 1 ≤ℤ (break_at line i).duration)
  pub forward : 0 < length line.breaks → EachIndex line.arcs (λ k. pos 0 ≤ℤ (arc_at line k).transit)

-- the line of a well-formed model with a list of distinct visits that is not empty is sound
abbrev pub LinesAreSound : Type 0
LinesAreSound =
    (model : Model) → IsWellFormed model → (d v : ℕ) → d < length model.dimensions → v < length model.vehicles
    → (list : List ℕ) → is_empty list ≡ false → IsTrue (list_all (is_visit model) list) → IsTrue (is_distinct list)
    → IsSound (line model d v list)
