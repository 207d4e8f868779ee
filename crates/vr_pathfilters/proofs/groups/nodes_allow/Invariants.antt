use Rattle.std.proofs.Common.{◌≡◌, true, take}
use Rattle.std.specs.List.{list_all}
use Rattle.vr_pathfilters.specs.Groups.{allows_node}
use Rattle.vr_pathfilters.proofs.groups.nodes_allow.Given as goal

-- the groups of the nodes so far allow what comes and goes
abbrev pub invariant-loop-node : goal.invariant-loop-node
invariant-loop-node l = list_all (allows_node l.filter.model.now l.filter.numbers l.routes.lists l.filter.balance) (take l.node-index l.nodes) ≡ true
