use Rattle.std.proofs.Common.{◌≡◌, ◌+◌, ◌<◌, ◌≤◌, drop, length}
use Rattle.std.specs.Prelude.{All}
use Rattle.vr_routes.specs.Pieces.{joined}
use Rattle.vr_guided.specs.Counts.{counted}
use Rattle.vr_guided.specs.Walks.{IsSoundWalk, walked}
use Rattle.vr_guided.proofs.stretches.Stretches.along_pieces.Given as goal

-- the walk went through the pieces so far, and those from here on are left
abbrev pub invariant-loop-piece : goal.invariant-loop-piece
invariant-loop-piece l = record {
  goes : walked l.self.arcs.weights.closed.model.now (counted l.self.arcs.weights.penalties.now) l.self.arcs.vehicle
      l.walk (joined l.self.routes.now.lists (drop l.piece-index l.pieces)) ≡ walked l.self.arcs.weights.closed.model.now
      (counted l.self.arcs.weights.penalties.now) l.self.arcs.vehicle l.initial.walk (joined l.self.routes.now.lists l.pieces);
  sound : IsSoundWalk l.self.arcs.weights.closed.model.now.nodes l.walk;
  room : l.walk.arcs + length (joined l.self.routes.now.lists (drop l.piece-index l.pieces)) ≤ 100000;
  nodes : All (λ node. node < l.self.arcs.weights.closed.model.now.nodes) (joined l.self.routes.now.lists (drop l.piece-index l.pieces));
}
