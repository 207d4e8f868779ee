use Rattle.std.proofs.Common.{◌≡◌, drop}
use Rattle.vr_usecosts.specs.Groups.{saved_by}
use Rattle.vr_usecosts.proofs.groups.saving.Given as goal

-- the groups so far have not the node
abbrev pub invariant-loop-g : goal.invariant-loop-g
invariant-loop-g l = saved_by l.closed.model.now.groups l.node ≡ saved_by (drop l.g l.closed.model.now.groups) l.node
