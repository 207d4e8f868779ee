use Rattle.vr_rules.proofs.OpenLemmas.{IsFeasibleBelow}
use Rattle.vr_ruin.proofs.known.goes_in_each.Given as goal

abbrev pub invariant-loop-d : goal.invariant-loop-d
invariant-loop-d l = IsFeasibleBelow l.changed.lookups.now.closed.model.now l.changed.vehicle l.changed.nodes.now l.d
