use Rattle.std.proofs.Common.{◌≡◌, take}
use Rattle.vr_model.specs.moves.Moves.{with_route}
use Rattle.vr_routes.proofs.seats.Seating.set_list.Given as goal

abbrev pub invariant-loop-node : goal.invariant-loop-node
invariant-loop-node l = record {
  lists : l.self.lists ≡ with_route l.initial.self.lists l.v (take l.node-index l.nodes);
  nodes : l.self.nodes ≡ l.initial.self.nodes;
}
