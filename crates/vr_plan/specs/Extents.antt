-- From which cumul to which the chosen schedules of lists reach in one dimension.
use Rattle.std.specs.Prelude.{◌≡◌, ℕ, ◌<◌, not, List, length, map, filter, ℤ, pos, ◌-ℤ◌, ◌*ℤ◌, Option, Some, None}
use Rattle.std.specs.Int.{int_max, int_min}
use Rattle.vr_model.specs.tables.Numbers.{below, horizon}
use Rattle.vr_model.specs.tables.Tables.{dimension_at}
use Rattle.vr_model.specs.tables.WellFormed.{IsIn}
use Rattle.vr_model.specs.routes.Routes.{route, is_empty}
use Rattle.vr_model.specs.routes.Costs.{assigned, global_span, greatest, least}
use Rattle.vr_model.specs.declared.records.Model.{Model}
use Rattle.vr_plan.specs.Timings.{start_with, last_with}
use Rattle.vr_plan.specs.declared.timings.Timing.{Timing}
use Rattle.vr_plan.specs.declared.extents.Extent.{Extent}

-- the used ones of the first n vehicles
abbrev pub used_below : List (List ℕ) → ℕ → List ℕ
used_below lists n = filter (λ v. not (is_empty (route lists v))) (below n)

-- the least start and the greatest end of used vehicles, of which there are some
pub record IsExtent (model : Model) (lists : List (List ℕ)) (d : ℕ) (used : List ℕ) (extent : Extent) : Type 0 where
  pub some : 0 < length used
  pub start : extent.start ≡ least (map (λ v. start_with model d v (route lists v)) used)
  pub last : extent.last ≡ greatest (map (λ v. last_with model d v (route lists v)) used)

-- the lesser of the start of an extent, if there is one, and a cumul
abbrev pub start_beside : Option Extent → ℤ → ℤ
start_beside None x = x
start_beside (Some extent) x = int_min extent.start x

-- the greater of the end of an extent, if there is one, and a cumul
abbrev pub last_beside : Option Extent → ℤ → ℤ
last_beside None x = x
last_beside (Some extent) x = int_max extent.last x

-- the extent with one schedule more
pub record IsWider (before : Option Extent) (timing : Timing) (extent : Extent) : Type 0 where
  pub start : extent.start ≡ start_beside before timing.start
  pub last : extent.last ≡ last_beside before timing.last

-- from the start of an extent to its end, 0 if there is none
abbrev pub length_of : Option Extent → ℤ
length_of None = pos 0
length_of (Some extent) = extent.last -ℤ extent.start

-- both cumuls are in their range
pub record IsExtentInRange (extent : Extent) : Type 0 where
  pub start : IsIn (pos 0) horizon extent.start
  pub last : IsIn (pos 0) horizon extent.last

-- what a dimension costs by the global span
abbrev pub global_in : Model → List (List ℕ) → ℕ → ℤ
global_in model lists d = (dimension_at model d).global_span_cost *ℤ global_span (assigned model lists) d
