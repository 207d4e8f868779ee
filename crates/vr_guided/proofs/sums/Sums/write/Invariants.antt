use Rattle.std.proofs.Common.{◌≡◌, ◌<◌, take}
use Rattle.vr_model.specs.tables.Tables.{vehicle_at}
use Rattle.vr_guided.specs.Counts.{counted}
use Rattle.vr_guided.specs.Sums.{AreArcSums, weight_by}
use Rattle.vr_balance.specs.Sums.{last_of}
use Rattle.vr_guided.proofs.sums.Sums.write.Given as goal

-- the sums of the stops so far
abbrev pub invariant-loop-node : goal.invariant-loop-node
invariant-loop-node l = record {
  sums : AreArcSums (weight_by l.list.arcs.weights.closed.model.now (counted l.list.arcs.weights.penalties.now) l.back)
      l.list.arcs.vehicle (vehicle_at l.list.arcs.weights.closed.model.now l.list.arcs.vehicle).start (take l.node-index l.nodes) l.self;
  at : l.at ≡ last_of (vehicle_at l.list.arcs.weights.closed.model.now l.list.arcs.vehicle).start (take l.node-index l.nodes);
  below : l.at < l.list.arcs.weights.closed.model.now.nodes;
}
