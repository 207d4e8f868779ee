use Rattle.std.proofs.Common.{◌≡◌, take}
use Rattle.vr_lns.specs.Cuts.{left_by}
use Rattle.vr_lns.proofs.leaving.lists_left.Given as goal

-- what is left of the lists so far
abbrev pub invariant-loop-v : goal.invariant-loop-v
invariant-loop-v l = l.left.items ≡ take l.v (left_by l.cut.lookups.now.closed.model.now l.cut.most l.cut.routes.now.lists l.cut.at)
