use Rattle.std.proofs.Common.{◌≡◌, ◌≤◌, take, sum_by}
use Rattle.vr_pathfilters.specs.Groups.{one_in_group}
use Rattle.vr_pathfilters.proofs.groups.many_in.Given as goal

-- how many of the nodes so far are of the group
abbrev pub invariant-loop-node : goal.invariant-loop-node
invariant-loop-node l = record {
  value : l.many ≡ sum_by (one_in_group l.numbers l.g) (take l.node-index l.nodes);
  few : l.many ≤ l.node-index;
}
