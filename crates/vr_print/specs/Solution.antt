-- The tree of a solution.
use Rattle.std.specs.Prelude.{ℕ, ℤ, List, [], ◌∷◌, if◌then◌else◌, codes, length, map}
use Rattle.serde_json.specs.Data.{Data, Members, string, array, object, no_items, no_members, member, put}
use Rattle.serde_json.specs.View.{items_of}
use Rattle.vr_model.specs.tables.Numbers.{below}
use Rattle.vr_model.specs.tables.Tables.{dimension_at}
use Rattle.vr_model.specs.schedules.Schedules.{Plan}
use Rattle.vr_model.specs.routes.Routes.{route, vehicles, is_empty, stops, inactive}
use Rattle.vr_model.specs.routes.Costs.{Assignment, assigned, parts_at, plan_at, sum_of}
use Rattle.vr_model.specs.declared.records.Dimension.{Dimension}
use Rattle.vr_model.specs.declared.records.Model.{Model}
use Rattle.vr_model.specs.declared.records.Parts.{Parts}
use Rattle.vr_model.specs.declared.records.Report.{Report}
use Rattle.vr_model.specs.declared.records.End.{End}
use Rattle.vr_model.specs.declared.records.End.TheVariants as stop
use Rattle.vr_print.specs.Numbers.{counts, whole, wholes}
use Rattle.vr_json.specs.Trees.{count}

-- a plan of a dimension: its break starts, its cumuls, the name of the dimension, and its slacks
unfoldable pub plan_tree : Dimension → Plan → Data
plan_tree dimension plan = object
    (member (codes "breaks") (wholes plan.breaks)
    (member (codes "cumuls") (wholes plan.cumuls)
    (member (codes "name") (string dimension.name)
    (member (codes "slacks") (wholes plan.slacks) no_members))))

-- the plan of vehicle v in dimension d
abbrev pub dimension_tree : Model → Assignment → ℕ → ℕ → Data
dimension_tree model assignment v d = plan_tree (dimension_at model d) (plan_at assignment d v)

-- the plans of a used vehicle, one in each dimension in order
abbrev pub used_plans_tree : Model → Assignment → ℕ → Data
used_plans_tree model assignment v =
    array (items_of (map (dimension_tree model assignment v) (below (length model.dimensions))))

-- the plans of vehicle v; none if its list is empty
abbrev pub plans_tree : Model → Assignment → ℕ → Data
plans_tree model assignment v =
    if is_empty (route assignment.lists v) then array no_items else used_plans_tree model assignment v

-- the nodes of a route from its start to its end; none if the list is empty
abbrev pub route_nodes : Model → ℕ → List ℕ → List ℕ
route_nodes model v [] = []
route_nodes model v (x ∷ xs) = stops model v (x ∷ xs)

-- the route of vehicle v
unfoldable pub route_tree : Model → Assignment → ℕ → Data
route_tree model assignment v = object
    (member (codes "dimensions") (plans_tree model assignment v)
    (member (codes "nodes") (counts (route_nodes model v (route assignment.lists v)))
    (member (codes "vehicle") (count v) no_members)))

-- the routes of all vehicles, in order
abbrev pub routes_tree : Model → Assignment → Data
routes_tree model assignment = array (items_of (map (route_tree model assignment) (vehicles assignment.lists)))

-- the parts of a cost
unfoldable pub parts_tree : Parts → Data
parts_tree parts = object
    (member (codes "arcs") (whole parts.arcs)
    (member (codes "fixed") (whole parts.fixed)
    (member (codes "global") (whole parts.global)
    (member (codes "penalty") (whole parts.penalty)
    (member (codes "soft") (whole parts.soft)
    (member (codes "span") (whole parts.span) no_members))))))

-- how a search ended, as a word
abbrev pub word_of : End → List ℕ
word_of stop.First = codes "first"
word_of stop.Optimum = codes "optimum"
word_of stop.Tries = codes "tries"
word_of stop.Solutions = codes "solutions"

-- A solution. It has the sum of the parts of its cost, the visits that are dropped, and what the first solution cost.
-- The parts, the routes and the report of the search come with them.
unfoldable pub tree_of : Parts → List ℕ → Data → ℤ → Report → Data
tree_of parts dropped routes first_cost report = object
    (member (codes "cost") (whole (sum_of parts))
    (member (codes "dropped") (counts dropped)
    (member (codes "first_cost") (whole first_cost)
    (member (codes "parts") (parts_tree parts)
    (member (codes "routes") routes
    (member (codes "solutions") (count report.solutions)
    (member (codes "status") (string (codes "ROUTING_SUCCESS"))
    (member (codes "stop") (string (word_of report.end))
    (member (codes "tries") (count report.tries) no_members)))))))))

-- members, and what a solution costs with its parts, what the first solution cost, and the visits that are dropped
abbrev pub costs_put : Parts → List ℕ → ℤ → Members → Members
costs_put parts dropped first_cost members =
    put (codes "parts") (parts_tree parts)
    (put (codes "first_cost") (whole first_cost)
    (put (codes "dropped") (counts dropped)
    (put (codes "cost") (whole (sum_of parts)) members)))

-- members, and the report of the search
abbrev pub report_put : Report → Members → Members
report_put report members =
    put (codes "tries") (count report.tries)
    (put (codes "stop") (string (word_of report.end))
    (put (codes "status") (string (codes "ROUTING_SUCCESS"))
    (put (codes "solutions") (count report.solutions) members)))

-- an assignment as a solution: the parts of its cost at its cumuls, the inactive visits, and its routes
unfoldable pub assignment_tree : Model → Assignment → ℤ → Report → Data
assignment_tree model assignment first_cost report =
    let dropped = inactive model assignment.lists in
    tree_of (parts_at model assignment) dropped (routes_tree model assignment) first_cost report

-- lists as a solution: their assignment at their chosen schedules
abbrev pub solution_tree : Model → List (List ℕ) → ℤ → Report → Data
solution_tree model lists first_cost report = assignment_tree model (assigned model lists) first_cost report
