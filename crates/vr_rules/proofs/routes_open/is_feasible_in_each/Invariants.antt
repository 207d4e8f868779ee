use Rattle.vr_rules.proofs.OpenLemmas.{IsFeasibleBelow}
use Rattle.vr_rules.proofs.routes_open.is_feasible_in_each.Given as goal

abbrev pub invariant-loop-d : goal.invariant-loop-d
invariant-loop-d l = IsFeasibleBelow l.lookups.closed.model.now l.v l.list l.d
