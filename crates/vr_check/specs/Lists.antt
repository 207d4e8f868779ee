-- The rules on printed nodes: the ends of a route, and that no visit comes twice.
use Rattle.std.specs.Prelude.{ℕ, ◌+◌, Bool, not, ◌||◌, ◌==◌, if◌then◌else◌, List, length, take, slice_index_or, Option}
use Rattle.vr_model.specs.tables.Numbers.{below}
use Rattle.vr_model.specs.tables.Tables.{vehicle_at, is_visit}
use Rattle.vr_model.specs.routes.Routes.{route, holds, is_active}
use Rattle.vr_model.specs.declared.records.Model.{Model}
use Rattle.vr_check.specs.Findings.{spot, where_wrong, first_finding}
use Rattle.vr_printed.specs.Printed.{nodes_at}
use Rattle.vr_check.specs.declared.finding.Spot.{Spot}
use Rattle.vr_printed.specs.declared.printed.PrintedRoute.{PrintedRoute}

-- the node at a place of some nodes
abbrev pub node_at : List ℕ → ℕ → ℕ
node_at nodes k = slice_index_or nodes k 0

-- the first node of a route is the start of its vehicle, the last one the end, and each other a visit
abbrev pub is_right_node : Model → ℕ → List ℕ → ℕ → Bool
is_right_node model v nodes k =
    if k == 0 then node_at nodes k == (vehicle_at model v).start
    else (if k + 1 == length nodes then node_at nodes k == (vehicle_at model v).end
    else is_visit model (node_at nodes k))

abbrev pub ends_broken_at : Model → ℕ → List ℕ → ℕ → Option Spot
ends_broken_at model v nodes k = where_wrong (not (is_right_node model v nodes k)) (spot v k)

-- the first place at which the nodes of a route are not the start of its vehicle, visits, and its end
abbrev pub ends_broken_of : Model → ℕ → List ℕ → Option Spot
ends_broken_of model v nodes = first_finding (ends_broken_at model v nodes) (below (length nodes))

abbrev pub ends_broken_in : Model → List PrintedRoute → ℕ → Option Spot
ends_broken_in model routes v = ends_broken_of model v (nodes_at routes v)

-- the rule of the ends, vehicle after vehicle
abbrev pub ends_broken : Model → List PrintedRoute → Option Spot
ends_broken model routes = first_finding (ends_broken_in model routes) (below (length routes))

-- the visit at place k of list v is in an earlier list, or earlier in its own
abbrev pub stands_before : List (List ℕ) → ℕ → List ℕ → ℕ → Bool
stands_before lists v list k = is_active (take v lists) (node_at list k) || holds (take k list) (node_at list k)

-- the place in a list counts the start, so the first visit is at place 1
abbrev pub once_broken_at : List (List ℕ) → ℕ → List ℕ → ℕ → Option Spot
once_broken_at lists v list k = where_wrong (stands_before lists v list k) (spot v (k + 1))

-- the first visit of a list that came earlier
abbrev pub once_broken_of : List (List ℕ) → ℕ → List ℕ → Option Spot
once_broken_of lists v list = first_finding (once_broken_at lists v list) (below (length list))

abbrev pub once_broken_in : List (List ℕ) → ℕ → Option Spot
once_broken_in lists v = once_broken_of lists v (route lists v)

-- the rule that each visit comes once
abbrev pub once_broken : List (List ℕ) → Option Spot
once_broken lists = first_finding (once_broken_in lists) (below (length lists))
