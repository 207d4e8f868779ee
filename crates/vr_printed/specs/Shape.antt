-- The shape of a printed solution: its tables, and the lengths and names that the model asks for.
use Rattle.std.specs.Prelude.{ℕ, ◌-◌, Bool, ◌&&◌, ◌==◌, nat_le, cond, List, [], length, pos, slice_index_or}
use Rattle.std.specs.Prelude.{Option, Some, None, Result, Ok, Err}
use Rattle.std.specs.List.{list_all}
use Rattle.std.specs.Str.{bytes_eq}
use Rattle.serde_json.specs.Data.{Data}
use Rattle.vr_json.specs.declared.fault.Fault.{Fault}
use Rattle.vr_model.specs.tables.Numbers.{below, is_same_number}
use Rattle.vr_model.specs.tables.Tables.{dimension_at, breaks_of}
use Rattle.vr_model.specs.declared.records.Model.{Model}
use Rattle.vr_model.specs.declared.records.Dimension.{Dimension}
use Rattle.vr_printed.specs.Printed.{no_route}
use Rattle.vr_printed.specs.Tables.{solution}
use Rattle.vr_printed.specs.declared.printed.Printed.{Printed}
use Rattle.vr_printed.specs.declared.printed.PrintedRoute.{PrintedRoute}
use Rattle.vr_printed.specs.declared.printed.PrintedPlan.{PrintedPlan}

-- A plan of vehicle v in a dimension has its name, and a cumul for each stop. It has a slack for each arc between them,
-- and a start for each break.
abbrev pub is_plan_shaped : Dimension → ℕ → ℕ → PrintedPlan → Bool
is_plan_shaped dimension v stops plan = bytes_eq plan.name dimension.name
    && ((length plan.cumuls == stops)
    && ((length plan.slacks == stops - 1)
    && (length plan.breaks == length (breaks_of dimension v))))

abbrev pub no_printed_plan : PrintedPlan
no_printed_plan = record { name = []; cumuls = []; slacks = []; breaks = [] }

-- the plan of a route in dimension d
abbrev pub plan_in : PrintedRoute → ℕ → PrintedPlan
plan_in route d = slice_index_or route.plans d no_printed_plan

abbrev pub is_shaped_in : Model → ℕ → PrintedRoute → ℕ → Bool
is_shaped_in model v route d = is_plan_shaped (dimension_at model d) v (length route.nodes) (plan_in route d)

-- each plan has the shape of its dimension's
abbrev pub are_plans_shaped : Model → ℕ → PrintedRoute → Bool
are_plans_shaped model v route = list_all (is_shaped_in model v route) (below (length model.dimensions))

-- a route with nodes has three or more, and a plan for each dimension in order
abbrev pub is_used_shaped : Model → ℕ → PrintedRoute → Bool
is_used_shaped model v route = nat_le 3 (length route.nodes)
    && ((length route.plans == length model.dimensions)
    && are_plans_shaped model v route)

-- the route of vehicle v: a route without nodes has no plans
abbrev pub is_route_shaped : Model → ℕ → PrintedRoute → Bool
is_route_shaped model v route = is_same_number route.vehicle (pos v)
    && cond (length route.nodes == 0) (length route.plans == 0) (is_used_shaped model v route)

abbrev pub is_shaped_at : Model → List PrintedRoute → ℕ → Bool
is_shaped_at model routes v = is_route_shaped model v (slice_index_or routes v no_route)

-- the routes are those of the vehicles, in order
abbrev pub are_routes_shaped : Model → List PrintedRoute → Bool
are_routes_shaped model routes = (length routes == length model.vehicles)
    && list_all (is_shaped_at model routes) (below (length routes))

-- a solution that was read, if its routes have the shape that the model asks for
abbrev pub where_shaped : Model → Result Printed Fault → Option Printed
where_shaped model (Err fault) = None
where_shaped model (Ok printed) = cond (are_routes_shaped model printed.routes) (Some printed) None

-- the solution that a tree prints, if it has the right shape
unfoldable pub printed_in : Model → Data → Option Printed
printed_in model d = where_shaped model (solution model.nodes [] d)
