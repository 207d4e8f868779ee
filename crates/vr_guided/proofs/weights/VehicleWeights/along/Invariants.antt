use Rattle.std.proofs.Common.{◌≡◌, ◌+◌, drop}
use Rattle.vr_guided.specs.Counts.{counted}
use Rattle.vr_guided.specs.Walks.{IsSoundWalk, walked}
use Rattle.vr_guided.proofs.weights.VehicleWeights.along.Given as goal

-- the walk went through the nodes so far, and those from here on are left
abbrev pub invariant-loop-node : goal.invariant-loop-node
invariant-loop-node l = record {
  goes : walked l.self.weights.closed.model.now (counted l.self.weights.penalties.now) l.self.vehicle l.walk (drop l.node-index l.nodes)
      ≡ walked l.self.weights.closed.model.now (counted l.self.weights.penalties.now) l.self.vehicle l.initial.walk l.nodes;
  sound : IsSoundWalk l.self.weights.closed.model.now.nodes l.walk;
  arcs : l.walk.arcs ≡ l.initial.walk.arcs + l.node-index;
}
