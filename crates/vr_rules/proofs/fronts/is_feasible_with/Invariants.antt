use Rattle.std.proofs.Common.{◌++◌}
use Rattle.vr_rules.specs.Placing.{item_nodes}
use Rattle.vr_rules.proofs.OpenLemmas.{IsFeasibleBelow}
use Rattle.vr_rules.proofs.fronts.is_feasible_with.Given as goal

abbrev pub invariant-loop-d : goal.invariant-loop-d
invariant-loop-d l = IsFeasibleBelow l.longer.closed.model.now l.longer.v (l.longer.list.now ++ item_nodes l.longer.item) l.d
