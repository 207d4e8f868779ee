-- The parts of the cost that are sums over routes, and over the plans of each.
use Rattle.std.specs.Prelude.{ℕ, ℤ, pos, cond, length}
use Rattle.vr_model.specs.tables.Numbers.{below, total_by}
use Rattle.vr_model.specs.tables.Tables.{vehicle_at}
use Rattle.vr_model.specs.routes.Routes.{is_empty, route_cost}
use Rattle.vr_model.specs.declared.records.Model.{Model}
use Rattle.vr_printed.specs.declared.printed.PrintedRoute.{PrintedRoute}
use Rattle.vr_check.specs.Handed.{RouteParts, route_at}
use Rattle.vr_check.specs.Terms.{soft_in, span_in}
use Rattle.vr_check.specs.declared.printed.Solution.{Solution}
use Rattle.vr_check.specs.declared.totals.PlanPart.{PlanPart}
use Rattle.vr_check.specs.declared.totals.PlanPart.TheVariants.{Soft, Span}
use Rattle.vr_check.specs.declared.totals.RoutePart.{RoutePart}
use Rattle.vr_check.specs.declared.totals.RoutePart.TheVariants.{Arcs, Fixed, Plans}

-- what the plan of a route of vehicle v costs in a dimension
abbrev pub plan_cost : PlanPart → Model → ℕ → PrintedRoute → ℕ → ℤ
plan_cost Soft = soft_in
plan_cost Span = span_in

-- what a route costs
abbrev pub part_cost : RoutePart → RouteParts → ℤ
part_cost Arcs it = route_cost it.model it.v it.list
part_cost Fixed it = cond (is_empty it.list) (pos 0) (vehicle_at it.model it.v).fixed
part_cost (Plans part) it = total_by (plan_cost part it.model it.v it.printed) (below (length it.printed.plans))

-- what the route of vehicle v costs
abbrev pub part_of : RoutePart → Solution → ℕ → ℤ
part_of part of v = part_cost part (route_at of v)

-- what all routes cost
abbrev pub over_routes : RoutePart → Solution → ℤ
over_routes part of = total_by (part_of part of) (below (length of.routes.now))
