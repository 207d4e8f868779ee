use Rattle.std.proofs.Common.{◌≡◌, ◌+◌, ◌≤◌, take, reverse, length}
use Rattle.vr_guided.specs.Counts.{counted}
use Rattle.vr_guided.specs.Walks.{IsSoundWalk, walked}
use Rattle.vr_guided.proofs.weights.VehicleWeights.along_back.Given as goal

-- the walk went through the nodes from this place on, and those before it are left
abbrev pub invariant-loop-place : goal.invariant-loop-place
invariant-loop-place l = record {
  goes : walked l.self.weights.closed.model.now (counted l.self.weights.penalties.now) l.self.vehicle l.walk (reverse (take l.place l.nodes))
      ≡ walked l.self.weights.closed.model.now (counted l.self.weights.penalties.now) l.self.vehicle l.initial.walk (reverse l.nodes);
  sound : IsSoundWalk l.self.weights.closed.model.now.nodes l.walk;
  high : l.place ≤ length l.nodes;
  arcs : l.walk.arcs + l.place ≡ l.initial.walk.arcs + length l.nodes;
}

abbrev pub decreases-loop-place : goal.decreases-loop-place
decreases-loop-place l = l.place
