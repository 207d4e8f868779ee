use Rattle.vr_reach.specs.Shared.{IsGreatestBelow}
use Rattle.vr_reach.proofs.shared.greatest_shared.Given as goal

-- the greatest cumul that is shared so far
abbrev pub invariant-loop-b : goal.invariant-loop-b
invariant-loop-b l = IsGreatestBelow l.left l.right l.b l.best
