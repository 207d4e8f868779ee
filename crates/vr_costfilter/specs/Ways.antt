-- How early a vehicle can end a list, and how late it can then start, by the runs of its stops.
use Rattle.std.proofs.Common.{arith}
use Rattle.std.proofs.lemmas.Int.{ints}
use Rattle.std.specs.Prelude.{ℕ, zero, suc, ◌<◌, ◌≤◌, ◌*◌, ◌+◌, List, fold, length, slice_index_or}
use Rattle.std.specs.Prelude.{ℤ, pos, neg_ℤ, ◌+ℤ◌, ◌-ℤ◌, ◌≤ℤ◌}
use Rattle.std.specs.Int.{int_max, int_min}
use Rattle.vr_spans.specs.declared.runs.Run.{Run}
use Rattle.vr_model.specs.tables.Numbers.{horizon}
use Rattle.vr_model.specs.tables.Tables.{transit, vehicle_at}
use Rattle.vr_model.specs.schedules.Lines.{Line}
use Rattle.vr_model.specs.schedules.Schedules.{arc_at}
use Rattle.vr_model.specs.declared.records.Model.{Model}
use Rattle.vr_costfilter.specs.Runs.{Runs, no_run, run_at}
use Rattle.vr_costfilter.specs.declared.tight.Way.{Way}

-- ---- along a line

-- how early a vehicle can be at stop k, if it waits for the begins of runs alone
abbrev pub time_at : Line → List Run → ℕ → ℤ
time_at line runs zero = (run_at runs 0).lo
time_at line runs (suc k) = int_max (time_at line runs k +ℤ (arc_at line k).transit) (run_at runs (suc k)).lo

-- the transits of the first k arcs
abbrev pub transits_to : Line → ℕ → ℤ
transits_to line zero = pos 0
transits_to line (suc k) = transits_to line k +ℤ (arc_at line k).transit

-- how late it may start and, without waiting, be at each stop up to k before its run is over
abbrev pub latest_to : Line → List Run → ℕ → ℤ
latest_to line runs zero = (run_at runs 0).hi
latest_to line runs (suc k) =
    int_min (latest_to line runs k) ((run_at runs (suc k)).hi -ℤ transits_to line (suc k))

-- the least end
abbrev pub least_end_by : Line → List Run → ℤ
least_end_by line runs = time_at line runs (length line.arcs)

-- the latest start with it
abbrev pub last_start : Line → List Run → ℤ
last_start line runs =
    int_min (latest_to line runs (length line.arcs)) (least_end_by line runs -ℤ transits_to line (length line.arcs))

-- ---- as it is walked

-- a way goes on to a node that allows a run of cumuls, over an arc that takes t
abbrev pub way_by : ℤ → ℕ → Run → Way → Way
way_by t node allowed way = record {
  at = node;
  time = int_max (way.time +ℤ t) allowed.lo;
  transits = way.transits +ℤ t;
  latest = int_min way.latest (allowed.hi -ℤ (way.transits +ℤ t));
}

-- a way of vehicle v goes on to a node
abbrev pub way_on : Model → ℕ → ℕ → Way → ℕ → Run → Way
way_on model d v way node allowed = way_by (transit model d v way.at node) node allowed way

-- it goes on to a visit
abbrev pub way_to_visit : Model → ℕ → ℕ → Runs → Way → ℕ → Way
way_to_visit model d v runs way node = way_on model d v way node (slice_index_or runs.visits node no_run)

-- it goes on to visits in order
abbrev pub tight_way_along : Model → ℕ → ℕ → Runs → Way → List ℕ → Way
tight_way_along model d v runs way nodes = fold (way_to_visit model d v runs) way nodes

-- vehicle v is at its start
abbrev pub way_out : Model → ℕ → Runs → Way
way_out model v runs =
    record { at = (vehicle_at model v).start; time = runs.start.lo; transits = pos 0; latest = runs.start.hi }

-- it has gone along a list to its end
abbrev pub whole_tight_way : Model → ℕ → ℕ → Runs → List ℕ → Way
whole_tight_way model d v runs list = way_on model d v (tight_way_along model d v runs (way_out model v runs) list)
    (vehicle_at model v).end runs.finish

-- the end that a whole way tells
abbrev pub last_by : Way → ℤ
last_by whole = whole.time

-- and the start
abbrev pub start_by : Way → ℤ
start_by whole = int_min whole.latest (whole.time -ℤ whole.transits)

-- the cumul that is nearest to a number
abbrev pub nearest_cumul : ℤ → ℤ
nearest_cumul x = int_min (int_max x (pos 0)) horizon

-- the numbers of n arcs. The node is one of the model, and the transits are within theirs. The time is at most the
-- horizon and the greatest transits, and the cumul is no later than the horizon.
pub record AreTightArcs (model : Model) (n node : ℕ) (time transits cumul : ℤ) : Type 0 where
  pub at : node < model.nodes
  pub early : pos 0 ≤ℤ time
  pub late : time ≤ℤ pos (68719476736 + 2147483648 * n)
  pub low : neg_ℤ (pos (2147483648 * n)) ≤ℤ transits
  pub high : transits ≤ℤ pos (2147483648 * n)
  pub soonest : neg_ℤ (pos (2147483648 * n)) ≤ℤ cumul
  pub latest : cumul ≤ℤ horizon

-- of fewer arcs, they are those of more
pub tight-more : {model : Model} {node : ℕ} {time transits cumul : ℤ} (n m : ℕ) → n ≤ m
    → AreTightArcs model n node time transits cumul → AreTightArcs model m node time transits cumul
tight-more n m le h = record {
  at = h.at;
  early = h.early;
  late = omega (arith, ints, h.late, le);
  low = omega (arith, ints, h.low, le);
  high = omega (arith, ints, h.high, le);
  soonest = omega (arith, ints, h.soonest, le);
  latest = h.latest;
}

-- the numbers of a way of n arcs
abbrev pub IsTightWayOf : Model → ℕ → Way → Type 0
IsTightWayOf model n way = AreTightArcs model n way.at way.time way.transits way.latest
