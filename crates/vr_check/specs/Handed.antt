-- The structs that are handed along, as the parts of which rules and sums speak.
use Rattle.std.specs.Prelude.{ℕ, List, slice_index_or}
use Rattle.vr_model.specs.routes.Routes.{route}
use Rattle.vr_model.specs.declared.records.Model.{Model}
use Rattle.vr_printed.specs.Printed.{no_route, visits_of}
use Rattle.vr_printed.specs.Shape.{plan_in}
use Rattle.vr_printed.specs.declared.printed.PrintedPlan.{PrintedPlan}
use Rattle.vr_printed.specs.declared.printed.PrintedRoute.{PrintedRoute}
use Rattle.vr_check.specs.declared.printed.LinePlan.{LinePlan}
use Rattle.vr_check.specs.declared.printed.Solution.{Solution}
use Rattle.vr_check.specs.declared.printed.VehicleRoute.{VehicleRoute}

-- a vehicle of a model, the visits on its route, and what is printed of it
pub record RouteParts : Type 0 where
  pub model : Model
  pub v : ℕ
  pub list : List ℕ
  pub printed : PrintedRoute

abbrev pub parts_of_route : VehicleRoute → RouteParts
parts_of_route on = record { model = on.closed.model.now; v = on.v; list = on.list.now; printed = on.route.now }

-- the route of vehicle v in a solution
abbrev pub route_at : Solution → ℕ → RouteParts
route_at of v = record {
  model = of.closed.model.now;
  v = v;
  list = route of.lists.now v;
  printed = slice_index_or of.routes.now v no_route;
}

-- a vehicle of a model with a list in dimension d, and the plan that is printed of it
pub record PlanParts : Type 0 where
  pub model : Model
  pub d : ℕ
  pub v : ℕ
  pub list : List ℕ
  pub printed : PrintedPlan

abbrev pub parts_of_plan : LinePlan → PlanParts
parts_of_plan of = record {
  model = of.asked.model.now;
  d = of.asked.d;
  v = of.asked.v;
  list = of.asked.list.now;
  printed = of.plan.now;
}

-- the plan of a route in dimension d
abbrev pub plan_parts_at : VehicleRoute → ℕ → PlanParts
plan_parts_at on d = record {
  model = on.closed.model.now;
  d = d;
  v = on.v;
  list = visits_of on.route.now;
  printed = plan_in on.route.now d;
}
