use Rattle.vr_known.proofs.MemoryLemmas.{SettledSoFar}
use Rattle.vr_known.proofs.stamps.Stamps.settle.Given as goal

-- the pairs so far are settled
abbrev pub invariant-loop-p : goal.invariant-loop-p
invariant-loop-p l = record {
  so : SettledSoFar l.closed.model.now l.routes.lists l.initial.self l.self l.p;
}
