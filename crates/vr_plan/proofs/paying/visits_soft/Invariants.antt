use Rattle.std.proofs.Common.{◌≡◌, false, take}
use Rattle.vr_plan.specs.Paying.{visits_soft}
use Rattle.vr_plan.proofs.paying.visits_soft.Given as goal

-- no visit so far has one
abbrev pub invariant-loop-node : goal.invariant-loop-node
invariant-loop-node l = visits_soft l.dimension (take l.node-index l.list) ≡ false
