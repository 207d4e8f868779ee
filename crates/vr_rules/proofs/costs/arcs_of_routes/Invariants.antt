use Rattle.std.proofs.Common.{◌≡◌, ◌*◌, ◌^◌, ◌≤ℤ◌, pos}
use Rattle.vr_rules.proofs.CostLemmas.{arcs_of_first}
use Rattle.vr_rules.proofs.costs.arcs_of_routes.Given as goal

abbrev pub invariant-loop-vehicle : goal.invariant-loop-vehicle
invariant-loop-vehicle l = record {
  sum : l.total ≡ arcs_of_first l.closed.model.now l.routes.lists l.vehicle;
  low : pos 0 ≤ℤ l.total;
  high : l.total ≤ℤ pos (2 ^ 40 * 1001 * l.vehicle);
}
