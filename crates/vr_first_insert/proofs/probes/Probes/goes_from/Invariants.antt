use Rattle.vr_rules.proofs.OpenLemmas.{IsFeasibleBelow}
use Rattle.vr_first_insert.proofs.probes.Probes.goes_from.Given as goal

abbrev pub invariant-loop-d : goal.invariant-loop-d
invariant-loop-d l = IsFeasibleBelow l.old.lookups.now.closed.model.now l.old.vehicle l.new l.d
