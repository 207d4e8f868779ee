-- Terms of the code, which adds up and looks up on its way what the rules say at once. No rule is said in them.
use Rattle.std.specs.Prelude.{neg_ℤ, nat_lt, cond, Some, ℕ, suc, ◌-◌, Bool, true, not, ◌&&◌, ◌||◌, ◌==◌, List, length}
use Rattle.std.specs.Prelude.{ℤ, pos, ◌-ℤ◌, ◌*ℤ◌, Option, None, slice_index_or}
use Rattle.std.specs.Int.{int_max, int_min}
use Rattle.std.specs.List.{list_all}
use Rattle.vr_model.specs.tables.Numbers.{number_at, total_by, below}
use Rattle.vr_model.specs.tables.Tables.{dimension_at}
use Rattle.vr_model.specs.tables.WellFormed.{IsIn}
use Rattle.vr_model.specs.routes.Costs.{Assignment, row_cost, global_span}
use Rattle.vr_model.specs.routes.Rules.{place_of}
use Rattle.vr_model.specs.schedules.Lines.{Line, stop_rows}
use Rattle.vr_model.specs.schedules.Schedules.{Plan, cumul, arc_at}
use Rattle.vr_model.specs.declared.records.Model.{Model}
use Rattle.vr_model.specs.declared.records.Pair.{Pair}
use Rattle.vr_model.specs.declared.records.Policy.{Policy}
use Rattle.vr_model.specs.declared.records.Policy.TheVariants.{Any, Lifo, Fifo}
use Rattle.vr_model.specs.declared.records.StopRow.{StopRow}
use Rattle.vr_printed.specs.Printed.{visits_of}
use Rattle.vr_printed.specs.Shape.{plan_in}
use Rattle.vr_printed.specs.declared.printed.PrintedRoute.{PrintedRoute}
use Rattle.vr_check.specs.declared.pairs.PlacesOfPair.{PlacesOfPair}
use Rattle.vr_check.specs.declared.spans.SpanEnds.{SpanEnds}

-- the node is at place k of a list
abbrev pub is_next : List ℕ → ℕ → ℕ → Bool
is_next list k node = nat_lt k (length list) && (slice_index_or list k 0 == node)

-- the places of a pair in a list
abbrev pub places_of : List ℕ → Pair → PlacesOfPair
places_of list pair = record { pickup = place_of list pair.pickup; delivery = place_of list pair.delivery }

-- what a policy asks of two pairs, by their places
abbrev pub are_pairs_in_order : Policy → PlacesOfPair → PlacesOfPair → Bool
are_pairs_in_order Any x y = true
are_pairs_in_order Lifo x y =
    not (nat_lt x.pickup y.pickup && nat_lt y.pickup x.delivery) || nat_lt y.delivery x.delivery
are_pairs_in_order Fifo x y = not (nat_lt x.pickup y.pickup) || nat_lt x.delivery y.delivery

-- what a policy asks of a pair and of each of some others
abbrev pub is_in_order : Policy → List PlacesOfPair → PlacesOfPair → Bool
is_in_order policy places x = list_all (are_pairs_in_order policy x) places

-- what the cumuls of arc k leave over its transit
abbrev pub left_over : Line → Plan → ℕ → ℤ
left_over line plan k = (cumul plan (suc k) -ℤ cumul plan k) -ℤ (arc_at line k).transit

-- what the cumul of stop k costs by the row of the stop
abbrev pub soft_at : List (Option StopRow) → List ℤ → ℕ → ℤ
soft_at rows cumuls k = row_cost (slice_index_or rows k None) (number_at cumuls k)

-- what the cumuls of a plan cost by the rows of their stops, stop after stop
abbrev pub soft_along : List (Option StopRow) → List ℤ → ℤ
soft_along rows cumuls = total_by (soft_at rows cumuls) (below (length cumuls))

-- the same of a plan of a route
abbrev pub soft_in : Model → ℕ → PrintedRoute → ℕ → ℤ
soft_in model v route d = soft_along (stop_rows (dimension_at model d) v (visits_of route)) (plan_in route d).cumuls

-- the first and the last cumul
abbrev pub first_cumul : List ℤ → ℤ
first_cumul cumuls = number_at cumuls 0

abbrev pub last_cumul : List ℤ → ℤ
last_cumul cumuls = number_at cumuls (length cumuls - 1)

-- the cumul of the end less that of the start
abbrev pub span_along : List ℤ → ℤ
span_along cumuls = last_cumul cumuls -ℤ first_cumul cumuls

-- what the span of a plan of a route costs
abbrev pub span_in : Model → ℕ → PrintedRoute → ℕ → ℤ
span_in model v route d = number_at (dimension_at model d).span_costs v *ℤ span_along (plan_in route d).cumuls

-- the ends of some routes with a further start and end
abbrev pub widened : Option SpanEnds → ℤ → ℤ → SpanEnds
widened None first last = record { first = first; last = last }
widened (Some ends) first last = record { first = int_min ends.first first; last = int_max ends.last last }

-- the ends with a further route, if it has a plan in dimension d
abbrev pub ends_with : ℕ → Option SpanEnds → PrintedRoute → Option SpanEnds
ends_with d ends route =
    cond (nat_lt d (length route.plans))
    (Some (widened ends (first_cumul (plan_in route d).cumuls) (last_cumul (plan_in route d).cumuls))) ends

-- from the least start to the greatest end, 0 of no routes
abbrev pub span_of_ends : Option SpanEnds → ℤ
span_of_ends None = pos 0
span_of_ends (Some ends) = ends.last -ℤ ends.first

-- what the span of all routes costs in dimension d
abbrev pub global_cost : Model → Assignment → ℕ → ℤ
global_cost model assignment d = (dimension_at model d).global_span_cost *ℤ global_span assignment d

-- a number lies in -n..=n
abbrev pub IsAround : ℕ → ℤ → Type 0
IsAround n x = IsIn (neg_ℤ (pos n)) (pos n) x
