use Rattle.std.proofs.Common.{◌≤◌, ◌-◌}
use Rattle.vr_reach.specs.Stretches.{SharesFront}
use Rattle.vr_reach.proofs.stretches.shared_front.Given as goal

abbrev pub invariant-nodes : goal.invariant-nodes
invariant-nodes l = record { within : l.front ≤ l.most; shares : SharesFront l.old l.new l.front }

abbrev pub decreases-nodes : goal.decreases-nodes
decreases-nodes l = l.most - l.front
