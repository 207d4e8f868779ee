-- How far lists reach at least after a change.
use Rattle.std.specs.Prelude.{◌==◌, ℕ, Bool, cond, List, fold, length, map}
use Rattle.std.specs.Prelude.{ℤ, pos, neg_ℤ, ◌-ℤ◌, ◌*ℤ◌, ◌≤ℤ◌, Option, None, Some}
use Rattle.std.specs.Int.{int_max, int_min}
use Rattle.std.specs.List.{list_any}
use Rattle.vr_model.specs.tables.Numbers.{below, horizon, total_by}
use Rattle.vr_model.specs.tables.Tables.{dimension_at}
use Rattle.vr_model.specs.tables.WellFormed.{IsIn}
use Rattle.vr_model.specs.routes.Routes.{is_empty, route, used_vehicles}
use Rattle.vr_model.specs.routes.Costs.{assigned, end_at, greatest, least, start_at}
use Rattle.vr_model.specs.declared.records.Model.{Model}
use Rattle.vr_plan.specs.Timings.{last_with, start_with}
use Rattle.vr_plan.specs.declared.extents.Extent.{Extent}
use Rattle.vr_earliest.specs.Ways.{earliest_end, least_span}
use Rattle.vr_routes.specs.Pieces.{ListAfter, joined}
use Rattle.vr_costfilter.specs.declared.spreads.Spread.{Spread}

-- how far no lists reach
abbrev pub no_spread : Spread
no_spread = record { last = pos 0; start = horizon; span = neg_ℤ horizon }

-- how far lists reach whose chosen schedules have an extent
abbrev pub spread_of : Option Extent → Spread
spread_of None = no_spread
spread_of (Some extent) = record { last = extent.last; start = extent.start; span = neg_ℤ horizon }

-- a spread reaches over one list more, at its chosen schedule
abbrev pub with_chosen : Model → ℕ → ℕ → List ℕ → Spread → Spread
with_chosen model d v list spread = cond (is_empty list) spread (record {
  last = int_max spread.last (last_with model d v list);
  start = int_min spread.start (start_with model d v list);
  span = spread.span;
})

-- it reaches over one list more, of which no schedule is built
abbrev pub with_early : Model → ℕ → ℕ → List ℕ → Spread → Spread
with_early model d v list spread = cond (is_empty list) spread (record {
  last = int_max spread.last (earliest_end model d v list);
  start = spread.start;
  span = int_max spread.span (least_span model d v list);
})

-- some part gives vehicle v a list
abbrev pub gives : List ListAfter → ℕ → Bool
gives parts v = list_any (λ part. part.vehicle == v) parts

-- a spread reaches over the list of vehicle v too, if no part gives it another one
abbrev pub with_kept : Model → List (List ℕ) → List ListAfter → ℕ → Spread → ℕ → Spread
with_kept model lists parts d spread v = cond (gives parts v) spread (with_chosen model d v (route lists v) spread)

-- it reaches over the list too that a part gives its vehicle
abbrev pub with_changed : Model → List (List ℕ) → ℕ → Spread → ListAfter → Spread
with_changed model lists d spread part = with_early model d part.vehicle (joined lists part.pieces) spread

-- how far the lists of the first n vehicles reach that parts leave as they are
abbrev pub spread_of_kept : Model → List (List ℕ) → List ListAfter → ℕ → ℕ → Spread
spread_of_kept model lists parts d n = fold (with_kept model lists parts d) no_spread (below n)

-- how far the lists after a change reach at least
abbrev pub spread_after : Model → List (List ℕ) → List ListAfter → ℕ → Spread
spread_after model lists parts d =
    fold (with_changed model lists d) (spread_of_kept model lists parts d (length lists)) parts

-- what the global span of dimension d costs at least after a change
abbrev pub global_least_in : Model → List (List ℕ) → List ListAfter → ℕ → ℤ
global_least_in model lists parts d =
    let spread = spread_after model lists parts d in
    (dimension_at model d).global_span_cost *ℤ int_max (spread.last -ℤ spread.start) spread.span

-- what the global spans cost at least after a change
abbrev pub global_least : Model → List (List ℕ) → List ListAfter → ℤ
global_least model lists parts = total_by (global_least_in model lists parts) (below (length model.dimensions))

-- the greatest end of the used vehicles in dimension d
abbrev pub last_end : Model → List (List ℕ) → ℕ → ℤ
last_end model lists d = greatest (map (end_at (assigned model lists) d) (used_vehicles lists))

-- their least start
abbrev pub first_start : Model → List (List ℕ) → ℕ → ℤ
first_start model lists d = least (map (start_at (assigned model lists) d) (used_vehicles lists))

-- the greatest end is no earlier than the spread says, the least start no later, and the global span no less
pub record IsSpread (model : Model) (lists : List (List ℕ)) (d : ℕ) (spread : Spread) : Type 0 where
  pub last : spread.last ≤ℤ last_end model lists d
  pub start : first_start model lists d ≤ℤ spread.start
  pub span : spread.span ≤ℤ (last_end model lists d -ℤ first_start model lists d)

-- both cumuls are in their range, and the span is too
pub record IsSpreadInRange (spread : Spread) : Type 0 where
  pub last : IsIn (pos 0) horizon spread.last
  pub start : IsIn (pos 0) horizon spread.start
  pub span : IsIn (neg_ℤ horizon) horizon spread.span
