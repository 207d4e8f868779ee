use Rattle.vr_first_savings.proofs.BoundLemmas.{AreRaisedUpTo}
use Rattle.vr_first_savings.proofs.joins.raise.Given as goal

-- the bounds of the routes so far are raised
abbrev pub invariant-loop-i : goal.invariant-loop-i
invariant-loop-i l = AreRaisedUpTo l.closed.model.now l.routes l.fn.bounds l.bounds l.i
