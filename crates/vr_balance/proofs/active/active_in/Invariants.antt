use Rattle.std.proofs.Common.{◌≡◌, ◌≤◌, take}
use Rattle.std.specs.Prelude.{count_by}
use Rattle.vr_model.specs.routes.Routes.{is_active}
use Rattle.vr_balance.proofs.active.active_in.Given as goal

-- how many of the nodes so far are active
abbrev pub invariant-loop-node : goal.invariant-loop-node
invariant-loop-node l = record {
  value : l.active ≡ count_by (is_active l.routes.lists) (take l.node-index l.group.nodes);
  few : l.active ≤ l.node-index;
}
