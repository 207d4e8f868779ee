use Rattle.std.proofs.Common.{◌≡◌, take}
use Rattle.vr_lns.specs.Cuts.{cut_chain, without_chain}
use Rattle.vr_lns.proofs.leaving.without_chain.Given as goal

-- what is left of the nodes so far
abbrev pub invariant-loop-node : goal.invariant-loop-node
invariant-loop-node l = l.left
    ≡ without_chain l.cut.lookups.now.closed.model.now (cut_chain l.cut.most l.cut.routes.now.lists l.cut.at) (take l.node-index l.list)
