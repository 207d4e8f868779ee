-- How short printed routes could be.
use Rattle.std.specs.Prelude.{◌≡◌, ℕ, ◌<◌, ℤ, false, not, if◌then◌else◌, List, [], map, filter, length, codes}
use Rattle.std.specs.Prelude.{Option, Some, None}
use Rattle.serde_json.specs.Data.{Data, string, array, object, no_members, member}
use Rattle.serde_json.specs.View.{items_of}
use Rattle.vr_model.specs.tables.ModelRules.{has_breaks}
use Rattle.vr_model.specs.tables.Numbers.{below, each}
use Rattle.vr_model.specs.tables.Tables.{dimension_at}
use Rattle.vr_model.specs.routes.Costs.{Assignment, plan_at}
use Rattle.vr_model.specs.routes.Routes.{is_empty, route, vehicles}
use Rattle.vr_model.specs.schedules.Lines.{Line, line}
use Rattle.vr_model.specs.schedules.Schedules.{Plan, span}
use Rattle.vr_model.specs.declared.records.Dimension.{Dimension}
use Rattle.vr_model.specs.declared.records.Model.{Model}
use Rattle.vr_print.specs.Numbers.{whole, wholes}
use Rattle.vr_json.specs.Trees.{count}
use Rattle.vr_printed.specs.Printed.{assignment_of}
use Rattle.vr_printed.specs.Shape.{printed_in}
use Rattle.vr_printed.specs.declared.printed.Printed.{Printed}
use Rattle.vr_app.specs.Checked.{Checked}
use Rattle.vr_app.specs.Shortest.{IsShortestSchedule, shortest_plan}

-- What is reported of a vehicle in a dimension: its cumuls and slacks by a plan, and the name of the dimension. With
-- these come the least span and the printed one.
unfoldable pub span_tree : Dimension → ℕ → Plan → ℤ → ℤ → Data
span_tree dimension v plan least printed = object
    (member (codes "cumuls") (wholes plan.cumuls)
    (member (codes "dimension") (string dimension.name)
    (member (codes "least") (whole least)
    (member (codes "printed") (whole printed)
    (member (codes "slacks") (wholes plan.slacks)
    (member (codes "vehicle") (count v) no_members))))))

-- what is reported of a line by one of its plans, beside the printed one
abbrev pub span_beside : Dimension → ℕ → Line → Plan → Plan → Data
span_beside dimension v its printed plan = span_tree dimension v plan (span its plan) (span its printed)

-- what is reported of a line: its shortest schedule beside the printed one
abbrev pub span_row : Dimension → ℕ → Line → Plan → Data
span_row dimension v its printed = span_beside dimension v its printed (shortest_plan its)

-- what is reported of vehicle v with a list and these plans in dimension d
abbrev pub span_at : Model → ℕ → List ℕ → (ℕ → Plan) → ℕ → Data
span_at model v list plans d = span_row (dimension_at model d) v (line model d v list) (plans d)

-- those of some dimensions in which no vehicle has breaks
abbrev pub without_breaks : Model → List ℕ → List ℕ
without_breaks model ds = filter (λ d. not (has_breaks (dimension_at model d))) ds

-- what is reported of a vehicle in some dimensions
abbrev pub spans_in : Model → ℕ → List ℕ → (ℕ → Plan) → List ℕ → List Data
spans_in model v list plans ds = map (span_at model v list plans) (without_breaks model ds)

-- what is reported of a vehicle, dimension after dimension; nothing if it is unused
abbrev pub spans_with : Model → ℕ → List ℕ → (ℕ → Plan) → List Data
spans_with model v list plans =
    if is_empty list then [] else spans_in model v list plans (below (length model.dimensions))

-- what is reported of vehicle v of an assignment
abbrev pub span_rows : Model → Assignment → ℕ → List Data
span_rows model assignment v = spans_with model v (route assignment.lists v) (λ d. plan_at assignment d v)

-- all that is reported
unfoldable pub reported_spans : List Data → Data
reported_spans rows = object
    (member (codes "spans") (array (items_of rows))
    (member (codes "status") (string (codes "SPANS")) no_members))

-- how short the routes of an assignment could be, vehicle after vehicle
unfoldable pub spans_tree : Model → Assignment → Data
spans_tree model assignment = reported_spans (each (vehicles assignment.lists) (span_rows model assignment))

-- the assignment of a printed solution, without routes if none is printed
abbrev pub printed_assignment : Option Printed → Assignment
printed_assignment None = record { lists = []; plans = [] }
printed_assignment (Some printed) = assignment_of printed.routes

-- how short the routes of a solution could be
unfoldable pub spans_of : Checked → Data
spans_of it = spans_tree it.model (printed_assignment (printed_in it.model it.solution))

-- the line of each used vehicle in each dimension has a shortest schedule, and `shortest_plan` is this
abbrev pub ReportsShortest : Model → Assignment → Type 0
ReportsShortest model assignment =
    (v d : ℕ) → v < length assignment.lists → d < length model.dimensions
    → is_empty (route assignment.lists v) ≡ false
    → (plan : Plan) × IsShortestSchedule (line model d v (route assignment.lists v)) plan
    × (shortest_plan (line model d v (route assignment.lists v)) ≡ plan)
