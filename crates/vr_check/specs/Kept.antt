-- What the structs that are handed along keep of their parts.
use Rattle.std.specs.Prelude.{◌≡◌, ℕ, ◌<◌, ◌≤◌, ◌+◌, List, length, IsTrue}
use Rattle.std.specs.List.{list_all}
use Rattle.vr_model.specs.tables.Tables.{is_visit}
use Rattle.vr_model.specs.tables.WellFormed.{IsWellFormed}
use Rattle.vr_model.specs.routes.Routes.{are_lists}
use Rattle.vr_model.specs.schedules.Lines.{line}
use Rattle.vr_model.specs.declared.records.Model.{Model}
use Rattle.vr_printed.specs.Printed.{lists_of, visits_of}
use Rattle.vr_printed.specs.Shape.{are_routes_shaped, is_route_shaped}
use Rattle.vr_printed.specs.declared.printed.Printed.{Printed}
use Rattle.vr_printed.specs.declared.printed.PrintedPlan.{PrintedPlan}
use Rattle.vr_printed.specs.declared.printed.PrintedRoute.{PrintedRoute}

-- a line of a well-formed model: its numbers are in range, and its list holds visits, at most 1000
pub record IsLineOfModel (model : Model) (d v : ℕ) (list : List ℕ) : Type 0 where
  pub well_formed : IsWellFormed model
  pub dimension : d < length model.dimensions
  pub vehicle : v < length model.vehicles
  pub visits : IsTrue (list_all (is_visit model) list)
  pub few : length list ≤ 1000

-- a plan has a cumul for each stop, a slack for each arc, and a start for each break
pub record FitsLine (model : Model) (d v : ℕ) (list : List ℕ) (plan : PrintedPlan) : Type 0 where
  pub cumuls : length plan.cumuls ≡ length list + 2
  pub slacks : length plan.slacks ≡ length list + 1
  pub breaks : length plan.breaks ≡ length (line model d v list).breaks

-- a route has the shape that the model asks for of a vehicle, and the list holds its visits, at most 1000
pub record IsRouteOf (model : Model) (v : ℕ) (list : List ℕ) (route : PrintedRoute) : Type 0 where
  pub vehicle : v < length model.vehicles
  pub same : list ≡ visits_of route
  pub visits : IsTrue (list_all (is_visit model) list)
  pub few : length list ≤ 1000
  pub shaped : IsTrue (is_route_shaped model v route)

-- the routes of a solution have the shape that the model asks for, and the lists hold their visits
pub record IsSolutionOf (model : Model) (printed : Printed) (lists : List (List ℕ))
    (routes : List PrintedRoute) : Type 0 where
  pub routes_are : routes ≡ printed.routes
  pub lists_are : lists ≡ lists_of routes
  pub visits : IsTrue (are_lists model lists)
  pub shaped : IsTrue (are_routes_shaped model routes)
