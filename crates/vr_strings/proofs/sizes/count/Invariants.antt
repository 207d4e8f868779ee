use Rattle.vr_strings.proofs.ListCounts.{AreCounts}
use Rattle.vr_strings.proofs.sizes.count.Given as goal

-- the counts of the lists so far
abbrev pub invariant-loop-v : goal.invariant-loop-v
invariant-loop-v l = AreCounts l.routes.lists l.v l.counts.active l.counts.used
