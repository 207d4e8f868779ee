use Rattle.vr_rules.proofs.OpenLemmas.{IsFeasibleBelow}
use Rattle.vr_first_insert.proofs.list_rows.is_feasible_between.Given as goal

abbrev pub invariant-loop-d : goal.invariant-loop-d
invariant-loop-d l = IsFeasibleBelow l.old.lookups.now.closed.model.now l.old.vehicle l.new l.d
