use Rattle.std.proofs.Common.{drop}
use Rattle.vr_known.proofs.MemoryLemmas.{SoFar}
use Rattle.vr_known.proofs.stamps.Stamps.note.Given as goal

-- the moves of the neighbourhoods so far stand in front
abbrev pub invariant-loop-k : goal.invariant-loop-k
invariant-loop-k l = record {
  so : SoFar l.neighbourhoods l.mv l.initial.self l.self (drop l.k l.neighbourhoods);
}
