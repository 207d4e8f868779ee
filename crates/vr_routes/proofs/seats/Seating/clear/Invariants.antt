use Rattle.std.proofs.Common.{◌≡◌, length}
use Rattle.vr_model.specs.routes.Routes.{route}
use Rattle.vr_model.specs.moves.Moves.{with_route}
use Rattle.vr_routes.proofs.seats.Seating.clear.Given as goal

abbrev pub invariant-loop-node : goal.invariant-loop-node
invariant-loop-node l = record {
  lists : l.self.lists ≡ with_route l.initial.self.lists l.v (route l.self.lists l.v);
  nodes : l.self.nodes ≡ l.initial.self.nodes;
}

abbrev pub decreases-loop-node : goal.decreases-loop-node
decreases-loop-node l = length (route l.self.lists l.v)
