use Rattle.std.proofs.Common.{◌≤◌, ◌-◌}
use Rattle.vr_reach.specs.Stretches.{SharesBack}
use Rattle.vr_reach.proofs.stretches.shared_back.Given as goal

abbrev pub invariant-nodes : goal.invariant-nodes
invariant-nodes l = record { within : l.back ≤ l.most; shares : SharesBack l.old l.new l.back }

abbrev pub decreases-nodes : goal.decreases-nodes
decreases-nodes l = l.most - l.back
