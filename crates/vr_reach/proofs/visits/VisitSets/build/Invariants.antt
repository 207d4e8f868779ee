use Rattle.vr_reach.specs.VisitSets.{AreSets}
use Rattle.vr_reach.proofs.visits.VisitSets.build.Given as goal

-- the tables of the vehicles so far
abbrev pub invariant-loop-v : goal.invariant-loop-v
invariant-loop-v l = AreSets l.closed.model.now l.d l.v l.sets
