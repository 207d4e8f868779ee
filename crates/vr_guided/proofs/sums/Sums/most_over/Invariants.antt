use Rattle.vr_guided.proofs.SumLemmas.{IsMostSoFar}
use Rattle.vr_guided.proofs.sums.Sums.most_over.Given as goal

-- the most of the arcs so far
abbrev pub invariant-loop-k : goal.invariant-loop-k
invariant-loop-k l = IsMostSoFar l.self l.arcs l.k l.most
