use Rattle.std.proofs.Common.{◌≡◌, ◌++◌, take}
use Rattle.vr_model.specs.routes.Routes.{route}
use Rattle.vr_model.specs.moves.Moves.{with_route}
use Rattle.vr_routes.specs.Tours.{HaveVisits}
use Rattle.vr_routes.proofs.routes.seat_list.Given as goal

abbrev pub invariant-loop-node : goal.invariant-loop-node
invariant-loop-node l = record {
  nodes : l.seating.nodes ≡ l.initial.seating.nodes;
  lists : l.seating.lists ≡ with_route l.initial.seating.lists l.v (route l.initial.seating.lists l.v ++ take l.node-index l.list);
  visits : HaveVisits l.model l.seating.lists;
}
