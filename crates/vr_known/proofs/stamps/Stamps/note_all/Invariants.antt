use Rattle.std.proofs.Common.{drop}
use Rattle.vr_known.proofs.MemoryLemmas.{AllSoFar}
use Rattle.vr_known.proofs.stamps.Stamps.note_all.Given as goal

-- what was learned of the neighbourhoods so far is of kinds of theirs
abbrev pub invariant-loop-k : goal.invariant-loop-k
invariant-loop-k l = record {
  so : AllSoFar l.neighbourhoods l.initial.self l.self (drop l.k l.neighbourhoods);
}
