use Rattle.vr_first_insert.specs.Waiting.{AreFirstWaiting}
use Rattle.vr_first_insert.proofs.waiting.unmarked.Given as goal

-- those of the candidates so far
abbrev pub invariant-loop-i : goal.invariant-loop-i
invariant-loop-i l = AreFirstWaiting l.items.candidates.now l.marks l.i l.waiting.items
