-- What the moves of a run add to arc costs, and which of them add no less than a bound.
use Rattle.std.specs.Prelude.{ℕ, ◌+◌, ◌<◌, ◌≤◌, true, List, [], take, drop, length, slice_index_or, slice_range}
use Rattle.std.specs.Prelude.{All, IsTrue, cond, nat_lt, ℤ, ◌+ℤ◌, ◌-ℤ◌, ◌≤ℤ◌}
use Rattle.vr_model.specs.tables.Tables.{arc_cost, vehicle_at}
use Rattle.vr_model.specs.moves.MoveTests.{is_move}
use Rattle.vr_model.specs.moves.Moves.{with_pair}
use Rattle.vr_model.specs.routes.Routes.{route_cost}
use Rattle.vr_model.specs.declared.records.Model.{Model}
use Rattle.vr_model.specs.declared.records.Pair.{Pair}
use Rattle.vr_model.specs.declared.neighbours.Move.{Move}
use Rattle.vr_balance.specs.Sums.{last_of, path_sum}
use Rattle.vr_parts.specs.Bounds.{IsAddedByChange}
use Rattle.vr_arccosts.specs.Along.{between_cost, IsAlong}
use Rattle.vr_arccosts.specs.ArcMoves.{arcs_added}
use Rattle.vr_arccosts.specs.Chains.{chain_of, chain_sum, first_node_or}
use Rattle.vr_arccosts.specs.declared.lines.Along.{Along}

-- if a move is one of the lists, it adds no less than a bound
abbrev pub AddsNoLess : Model → List (List ℕ) → Move → ℤ → Type 0
AddsNoLess model lists mv bound = IsTrue (is_move model lists mv) → bound ≤ℤ arcs_added model lists mv

-- a list of vehicle v, and the sums along its line
pub record IsLine (model : Model) (v : ℕ) (list : List ℕ) (along : Along) : Type 0 where
  pub nodes : All (λ node. node < model.nodes) list
  pub few : length list ≤ 1000
  pub sums : IsAlong model v list along

-- a chain of nodes of a model, and what a change may add
pub record IsPutChain (model : Model) (first last : ℕ) (base : ℤ) : Type 0 where
  pub first_known : first < model.nodes
  pub last_known : last < model.nodes
  pub range : IsAddedByChange base

-- a list of nodes of a model, and two places of it, of which lo comes first
pub record IsRest (model : Model) (list : List ℕ) (lo hi : ℕ) : Type 0 where
  pub nodes : All (λ node. node < model.nodes) list
  pub few : length list ≤ 1000
  pub order : lo < hi
  pub place : hi < length list

-- the place in a list of a node of the list without those at places lo and hi
abbrev pub place_among_all : ℕ → ℕ → ℕ → ℕ
place_among_all place lo hi = cond (nat_lt place lo) place (cond (nat_lt (place + 1) hi) (place + 1) (place + 2))

-- the node of the stop before a place of the list of vehicle v, and that of the stop at it
abbrev pub before_place : Model → ℕ → List ℕ → ℕ → ℕ
before_place model v list place = last_of (vehicle_at model v).start (take place list)

abbrev pub at_place : Model → ℕ → List ℕ → ℕ → ℕ
at_place model v list place = first_node_or (drop place list) (vehicle_at model v).end

-- what the arcs to and from a chain cost more than what is between two stops of the list of vehicle v. They go from the
-- stop before place f to the chain's first node, and from its last node to the stop at place b.
abbrev pub ends_added : Model → ℕ → List ℕ → ℕ → ℕ → ℕ → ℕ → ℤ
ends_added model v list f b first last =
    (arc_cost model v (before_place model v list f) first +ℤ arc_cost model v last (at_place model v list b))
    -ℤ between_cost model v list f b (slice_range list f b)

-- what the arcs of vehicle v cost more if places a to b of its list are reversed
abbrev pub turn_added : Model → ℕ → List ℕ → ℕ → ℕ → ℤ
turn_added model v list a b =
    ends_added model v list a (b + 1) (slice_index_or list b 0) (slice_index_or list a 0)
    +ℤ chain_sum (arc_cost model v) (chain_of true list a (b + 1))

-- the same of a chain that is put before a place, of which only the arcs to and from it count
abbrev pub gap_added : Model → ℕ → List ℕ → ℕ → ℕ → ℕ → ℤ
gap_added model v list first last place = ends_added model v list place place first last

-- what the arcs of vehicle v cost more if a pair is put into its list. The pickup is put before place s, and the
-- delivery before place t.
abbrev pub pair_added : Model → ℕ → List ℕ → Pair → ℕ → ℕ → ℤ
pair_added model v list pair s t = route_cost model v (with_pair pair s t list) -ℤ route_cost model v list

-- what the k nodes from a place on of the list of vehicle v add if they leave it, without the arcs between them
abbrev pub left_added : Model → ℕ → List ℕ → ℕ → ℕ → ℤ
left_added model v list a k =
    (between_cost model v list a (a + k) [] -ℤ between_cost model v list a (a + k) (slice_range list a (a + k)))
    +ℤ chain_sum (arc_cost model v) (slice_range list a (a + k))

-- what the arcs of vehicle v cost more if another node is at a place of its list
abbrev pub swap_added : Model → ℕ → List ℕ → ℕ → ℕ → ℤ
swap_added model v list place node = ends_added model v list place (place + 1) node node

-- what the front of the list of vehicle v, up to place a, costs vehicle w, less what the arcs cost there now. The new
-- arcs go up to the last node of the front.
abbrev pub front_added : Model → ℕ → List ℕ → ℕ → ℕ → ℤ
front_added model v list w a = path_sum (arc_cost model w) (vehicle_at model w).start (take a list)
    -ℤ between_cost model v list 0 a (slice_range list 0 a)

-- what a move adds beside what it adds in the gap after the front of vehicle w. It lets the front of the list of
-- vehicle v, up to place a, change vehicles with that one. Both vehicles have the same costs.
abbrev pub cross_base : Model → ℕ → List ℕ → ℕ → List ℕ → ℕ → ℤ
cross_base model v list w other a =
    (arc_cost model v (vehicle_at model v).start (slice_index_or other 0 0)
    -ℤ arc_cost model w (vehicle_at model w).start (slice_index_or other 0 0))
    +ℤ front_added model v list w a

-- what the move adds by which two fronts change vehicles. One is of the list of vehicle v, up to place a, the other of
-- that of vehicle w, up to place b.
abbrev pub fronts_added : Model → ℕ → List ℕ → ℕ → List ℕ → ℕ → ℕ → ℤ
fronts_added model v list w other a b =
    (between_cost model v list 0 a (take b other) -ℤ between_cost model v list 0 a (slice_range list 0 a))
    +ℤ (between_cost model w other 0 b (take a list) -ℤ between_cost model w other 0 b (slice_range other 0 b))
