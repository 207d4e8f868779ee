use Rattle.std.proofs.Common.{◌-◌, length}
use Rattle.vr_first_insert.proofs.probes.fit.Given as goal

abbrev pub invariant-fill : goal.invariant-fill
invariant-fill l = Unit {0}

abbrev pub decreases-fill : goal.decreases-fill
decreases-fill l = l.wanted - length l.probes.here.items
