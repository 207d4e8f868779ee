use Rattle.vr_rules.specs.Sums.{AreVehicleSums}
use Rattle.vr_rules.proofs.sums.sums_of.Given as goal

abbrev pub invariant-loop-v : goal.invariant-loop-v
invariant-loop-v l = AreVehicleSums l.of.lookups.now.closed.model.now l.of.routes.now.lists l.of.d l.v l.sums
