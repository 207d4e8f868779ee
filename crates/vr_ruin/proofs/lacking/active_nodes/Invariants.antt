use Rattle.std.proofs.Common.{◌≡◌, ◌≤◌, take}
use Rattle.std.specs.Prelude.{count_by}
use Rattle.vr_model.specs.routes.Routes.{is_active}
use Rattle.vr_ruin.proofs.lacking.active_nodes.Given as goal

abbrev pub invariant-loop-node : goal.invariant-loop-node
invariant-loop-node l = record {
  counted : l.active ≡ count_by (is_active l.routes.lists) (take l.node-index l.group.nodes);
  within : l.active ≤ l.node-index;
}
