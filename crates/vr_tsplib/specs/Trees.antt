-- The tree of the model of a file.
use Rattle.std.specs.Prelude.{ℕ, ◌+◌, ◌-◌, ◌*◌, ◌/◌, ◌==◌, Bool, true, false, List, map, codes, get_or, max, min}
use Rattle.std.specs.Prelude.{ℤ, ◌-ℤ◌, unsigned_abs, if◌then◌else◌}
use Rattle.std.specs.List.{range_with_len}
use Rattle.serde_json.specs.Data.{Data, string, object, boolean, no_members, member}
use Rattle.vr_model.specs.tables.Numbers.{below}
use Rattle.vr_json.specs.Trees.{count, listed, one}
use Rattle.vr_tsplib.specs.declared.section_rows.SiteRow.{SiteRow}
use Rattle.vr_tsplib.specs.declared.section_rows.DemandRow.{DemandRow}
use Rattle.vr_tsplib.specs.declared.files.State.{State}
use Rattle.vr_tsplib.specs.declared.summaries.Problem.{Problem}
use Rattle.vr_tsplib.specs.declared.summaries.Distances.{Distances}
use Rattle.vr_tsplib.specs.declared.summaries.Distances.TheVariants.{Plane, Full, Lower}
use Rattle.vr_tsplib.specs.Roots.{nearest}
use Rattle.vr_tsplib.specs.Rows.{site_of, demand_of}

-- the nodes of a file, from 1 on
abbrev pub file_nodes : ℕ → List ℕ
file_nodes n = range_with_len 1 n

-- how far two numbers are apart
abbrev pub axis_gap : ℤ → ℤ → ℕ
axis_gap x y = unsigned_abs (x -ℤ y)

-- the distance of two nodes in the plane: the whole number next to the root of the sum of the squares of their
-- differences
abbrev pub distance : SiteRow → SiteRow → ℕ
distance a b = nearest (axis_gap a.x b.x * axis_gap a.x b.x + axis_gap a.y b.y * axis_gap a.y b.y)

-- the point of each node
abbrev pub sites : ℕ → List SiteRow → List SiteRow
sites n rows = map (site_of rows) (file_nodes n)

-- the distances from a node, and all of them
abbrev pub plane_row : List SiteRow → SiteRow → Data
plane_row places a = listed (λ b. count (distance a b)) places

abbrev pub plane : List SiteRow → Data
plane places = listed (plane_row places) places

-- the weight at a place, 0 past the end
abbrev pub weight_at : List ℕ → ℕ → ℕ
weight_at weights k = get_or weights k 0

-- the weight of two nodes in a full matrix, which is written row by row
abbrev pub full_weight : ℕ → List ℕ → ℕ → ℕ → ℕ
full_weight n weights i j = weight_at weights (i * n + j)

-- the weight of two nodes if each node has those to all lower ones, the same both ways
abbrev pub lower_weight : List ℕ → ℕ → ℕ → ℕ
lower_weight weights i j =
    let hi = max i j in if i == j then 0 else weight_at weights (hi * (hi - 1) / 2 + min i j)

abbrev pub weight : Bool → ℕ → List ℕ → ℕ → ℕ → ℕ
weight lower n weights i j = if lower then lower_weight weights i j else full_weight n weights i j

-- the weights of a node, and all of them
abbrev pub square_row : Bool → ℕ → List ℕ → ℕ → Data
square_row lower n weights i = listed (λ j. count (weight lower n weights i j)) (below n)

abbrev pub square : Bool → ℕ → List ℕ → Data
square lower n weights = listed (square_row lower n weights) (below n)

-- the matrix of weights
abbrev pub matrix : Distances → ℕ → State → Data
matrix Plane n state = plane (sites n state.sites)
matrix Full n state = square false n state.weights
matrix Lower n state = square true n state.weights

-- the demands of all nodes
abbrev pub demands : ℕ → State → Data
demands n state = listed (λ node. count (demand_of state.demands node)) (file_nodes n)

-- the dimension of loads
unfoldable pub loads : ℕ → Data → Data
loads capacity demands = object
    (member (codes "capacity") (count capacity)
    (member (codes "evaluators") (one (object (member (codes "values") demands no_members)))
    (member (codes "fix_start") (boolean true)
    (member (codes "name") (string (codes "load"))
    (member (codes "slack_max") (count 0) no_members)))))

-- a vehicle from a node to that node
abbrev pub vehicle : ℕ → Data
vehicle node = object (member (codes "end") (count node) (member (codes "start") (count node) no_members))

-- this many vehicles at a node
abbrev pub fleet : ℕ → ℕ → Data
fleet vehicles node = listed (λ v. vehicle node) (below vehicles)

-- the model of a file, with this many vehicles; node i of the file is node i - 1
unfoldable pub tree_of : ℕ → State → Problem → Data
tree_of vehicles state problem = object
    (member (codes "dimensions") (one (loads problem.capacity (demands problem.nodes state)))
    (member (codes "format") (count 1)
    (member (codes "matrices") (one (matrix problem.distances problem.nodes state))
    (member (codes "nodes") (count problem.nodes)
    (member (codes "vehicles") (fleet vehicles (problem.depot - 1)) no_members)))))
