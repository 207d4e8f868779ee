-- What the code knows when it reports spans.
use Rattle.std.specs.Prelude.{◌≡◌, ℕ, ◌<◌, ℤ, List, Some, IsTrue, false, length, slice_index_or}
use Rattle.std.specs.List.{list_all}
use Rattle.serde_json.specs.Data.{Data}
use Rattle.vr_check.specs.Check.{finding}
use Rattle.vr_check.specs.declared.finding.Finding.TheVariants.{Meets}
use Rattle.vr_model.specs.routes.Routes.{is_distinct, is_empty}
use Rattle.vr_model.specs.schedules.Lines.{Line as Defined, line}
use Rattle.vr_model.specs.schedules.Schedules.{Plan, IsSchedule, span}
use Rattle.vr_model.specs.tables.Tables.{is_visit}
use Rattle.vr_model.specs.declared.records.Model.{Model}
use Rattle.vr_plan.specs.Plans.{as_defined}
use Rattle.vr_printed.specs.Printed.{no_route, plan_of, visits_of}
use Rattle.vr_printed.specs.Shape.{plan_in}
use Rattle.vr_printed.specs.declared.printed.PrintedRoute.{PrintedRoute}
use Rattle.vr_span.specs.declared.least.Least.{Least}
use Rattle.vr_steps.specs.declared.lines.Line.{Line}
use Rattle.vr_steps.specs.Lines.{IsLineOf}
use Rattle.vr_app.specs.Shortest.{shortest}

-- the solution meets the rules of the model
abbrev pub IsMetIn : Model → Data → Type 0
IsMetIn model solution = (cost : ℤ) × (finding model solution ≡ Meets cost)

-- the plans that are printed of a route
abbrev pub printed_plans : PrintedRoute → ℕ → Plan
printed_plans route d = plan_of (plan_in route d)

-- the list of vehicle v has visits, and each printed plan of the route is a schedule of its line
pub record HasSchedules (model : Model) (v : ℕ) (route : PrintedRoute) (list : List ℕ) : Type 0 where
  pub vehicle : v < length model.vehicles
  pub some : 0 < length list
  pub visits : IsTrue (list_all (is_visit model) list)
  pub distinct : IsTrue (is_distinct list)
  pub plans : length route.plans ≡ length model.dimensions
  pub schedules : (d : ℕ) → d < length model.dimensions
      → IsSchedule (line model d v list) (printed_plans route d)

-- there is a route for each vehicle, and those of used ones have schedules
pub record AreScheduled (model : Model) (routes : List PrintedRoute) : Type 0 where
  pub of_each_vehicle : length routes ≡ length model.vehicles
  pub of_used : (v : ℕ) → v < length routes → is_empty (visits_of (slice_index_or routes v no_route)) ≡ false
      → HasSchedules model v (slice_index_or routes v no_route) (visits_of (slice_index_or routes v no_route))

-- the plan is the shortest schedule of a line, and its span is kept beside it
pub record IsShortestIn (line : Defined) (least : Least) : Type 0 where
  pub plan_is : shortest line ≡ Some (as_defined least.plan)
  pub span_is : least.span ≡ span line (as_defined least.plan)

-- the same of a line as the code holds it
abbrev pub IsShortestOf : Line → Least → Type 0
IsShortestOf line least = (defined : Defined) → IsLineOf defined line → IsShortestIn defined least
