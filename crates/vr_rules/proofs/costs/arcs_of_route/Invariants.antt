use Rattle.std.proofs.Common.{◌≡◌, ◌<◌, ◌*◌, ◌^◌, ◌++◌, ◌∷◌, [], ◌+ℤ◌, ◌≤ℤ◌, pos, drop}
use Rattle.vr_model.proofs.routes.PathCosts.{path_cost}
use Rattle.vr_rules.proofs.costs.arcs_of_route.Given as goal

abbrev pub invariant-loop-node : goal.invariant-loop-node
invariant-loop-node l = record {
  sum : l.total +ℤ path_cost l.closed.model.now l.vehicle l.at (drop l.node-index l.list ++ l.ends.end ∷ [])
      ≡ path_cost l.closed.model.now l.vehicle l.ends.start (l.list ++ l.ends.end ∷ []);
  low : pos 0 ≤ℤ l.total;
  high : l.total ≤ℤ pos (2 ^ 40 * l.node-index);
  at : l.at < l.closed.model.now.nodes;
}
