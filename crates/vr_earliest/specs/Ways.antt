-- How early a vehicle can be on its way along a list.
use Rattle.std.proofs.Common.{arith}
use Rattle.std.proofs.lemmas.Int.{ints}
use Rattle.std.specs.Prelude.{ℕ, List, ◌<◌, ◌≤◌, ◌*◌, ◌+◌, fold, cond, ℤ, pos, neg_ℤ, ◌+ℤ◌, ◌-ℤ◌, ◌≤ℤ◌}
use Rattle.std.specs.Int.{int_max, int_min}
use Rattle.vr_model.specs.tables.Numbers.{horizon}
use Rattle.vr_model.specs.tables.Tables.{dimension_at, transit, vehicle_at}
use Rattle.vr_model.specs.declared.records.Model.{Model}
use Rattle.vr_earliest.specs.Floors.{end_floor, starts_freely, start_floor, visit_floor}
use Rattle.vr_earliest.specs.declared.ways.Way.{Way}

-- a way goes on to a node, at no cumul below a floor
abbrev pub to_node : Model → ℕ → ℕ → Way → ℕ → ℤ → Way
to_node model d v way node floor = record {
  at = node;
  time = int_max (way.time +ℤ transit model d v way.at node) floor;
  transits = way.transits +ℤ transit model d v way.at node;
}

-- it goes on to a visit
abbrev pub on_to_visit : Model → ℕ → ℕ → Way → ℕ → Way
on_to_visit model d v way node = to_node model d v way node (visit_floor model d node)

-- it goes on to visits in order
abbrev pub to_visits : Model → ℕ → ℕ → Way → List ℕ → Way
to_visits model d v way nodes = fold (on_to_visit model d v) way nodes

-- vehicle v is at its start
abbrev pub way_from_start : Model → ℕ → ℕ → Way
way_from_start model d v =
    record { at = (vehicle_at model v).start; time = start_floor model d v; transits = pos 0 }

-- it has gone along visits from there
abbrev pub way_along : Model → ℕ → ℕ → List ℕ → Way
way_along model d v list = to_visits model d v (way_from_start model d v) list

-- it has gone along a list to its end
abbrev pub whole_way : Model → ℕ → ℕ → List ℕ → Way
whole_way model d v list = to_node model d v (way_along model d v list) (vehicle_at model v).end (end_floor model d v)

-- the time of the whole way, at most the horizon
abbrev pub earliest_end : Model → ℕ → ℕ → List ℕ → ℤ
earliest_end model d v list = int_min horizon (whole_way model d v list).time

-- what a whole way tells of the span: the transits. If the vehicle starts freely, it is the lesser of the time since
-- its start's floor and of the greatest slack plus the transits.
abbrev pub span_by : Model → ℕ → ℕ → Way → ℤ
span_by model d v way = cond (starts_freely (vehicle_at model v) (dimension_at model d) v)
    (int_min (way.time -ℤ start_floor model d v) ((dimension_at model d).slack_max +ℤ way.transits))
    way.transits

-- the same within the horizon
abbrev pub least_span : Model → ℕ → ℕ → List ℕ → ℤ
least_span model d v list =
    int_max (neg_ℤ horizon) (int_min horizon (span_by model d v (whole_way model d v list)))

-- the numbers of n arcs: a node of the model, a time of at most the horizon and the greatest transits, and transits
-- within theirs
pub record AreArcs (model : Model) (n node : ℕ) (time transits : ℤ) : Type 0 where
  pub at : node < model.nodes
  pub early : pos 0 ≤ℤ time
  pub late : time ≤ℤ pos (68719476736 + 2147483648 * n)
  pub low : neg_ℤ (pos (2147483648 * n)) ≤ℤ transits
  pub high : transits ≤ℤ pos (2147483648 * n)

-- of fewer arcs, they are those of more
pub arcs-more : {model : Model} {node : ℕ} {time transits : ℤ} (n m : ℕ) → n ≤ m → AreArcs model n node time transits
    → AreArcs model m node time transits
arcs-more n m le h = record {
  at = h.at;
  early = h.early;
  late = omega (arith, ints, h.late, le);
  low = omega (arith, ints, h.low, le);
  high = omega (arith, ints, h.high, le);
}

-- the numbers of a way of n arcs
abbrev pub IsWayOf : Model → ℕ → Way → Type 0
IsWayOf model n way = AreArcs model n way.at way.time way.transits

-- a way along the front of a list, of 1000 nodes at most, and on along pieces of 8000 at most
abbrev pub IsWayAlongPieces : Model → Way → Type 0
IsWayAlongPieces model = IsWayOf model 9000

-- a way on from there along a piece of 1000 nodes at most
abbrev pub IsLongWay : Model → Way → Type 0
IsLongWay model = IsWayOf model 10000

-- a way on from the middle to a stop and along what is left after it, 1000 arcs at most
abbrev pub IsWholeWay : Model → Way → Type 0
IsWholeWay model = IsWayOf model 10001
