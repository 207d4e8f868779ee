-- What a printed solution says: the lists, the plans, and the assignment.
use Rattle.std.specs.Prelude.{ℕ, ◌-◌, List, [], map, length, take, drop, pos, slice_index_or}
use Rattle.vr_model.specs.schedules.Schedules.{Plan}
use Rattle.vr_model.specs.routes.Costs.{Assignment}
use Rattle.vr_printed.specs.declared.printed.PrintedRoute.{PrintedRoute}
use Rattle.vr_printed.specs.declared.printed.PrintedPlan.{PrintedPlan}

-- the plan that is printed
abbrev pub plan_of : PrintedPlan → Plan
plan_of plan = record { cumuls = plan.cumuls; slacks = plan.slacks; breaks = plan.breaks }

-- the visits between the ends of a route
abbrev pub visits_between : List ℕ → List ℕ
visits_between nodes = take (length nodes - 2) (drop 1 nodes)

-- the list of visits of a route
abbrev pub visits_of : PrintedRoute → List ℕ
visits_of route = visits_between route.nodes

-- the plans of a route
abbrev pub plans_of : PrintedRoute → List Plan
plans_of route = map plan_of route.plans

-- the lists that are printed
abbrev pub lists_of : List PrintedRoute → List (List ℕ)
lists_of routes = map visits_of routes

-- the assignment that is printed
abbrev pub assignment_of : List PrintedRoute → Assignment
assignment_of routes = record { lists = lists_of routes; plans = map plans_of routes }

abbrev pub no_route : PrintedRoute
no_route = record { vehicle = pos 0; nodes = []; plans = [] }

-- the nodes that are printed of vehicle v
abbrev pub nodes_at : List PrintedRoute → ℕ → List ℕ
nodes_at routes v = (slice_index_or routes v no_route).nodes
