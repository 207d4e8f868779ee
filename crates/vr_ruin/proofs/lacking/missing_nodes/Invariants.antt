use Rattle.std.proofs.Common.{◌≡◌, ◌≤◌, ◌*◌, take}
use Rattle.std.specs.Prelude.{sum_by}
use Rattle.vr_model.specs.routes.Rules.{active_in}
use Rattle.vr_ruin.specs.Lacking.{needed_by}
use Rattle.vr_ruin.proofs.lacking.missing_nodes.Given as goal

abbrev pub invariant-loop-k : goal.invariant-loop-k
invariant-loop-k l = record {
  sum : l.missing ≡ sum_by (λ group. needed_by group.penalty group.max (active_in l.routes.lists group)) (take l.k l.closed.model.now.groups);
  few : l.missing ≤ l.k * 1000;
}
