use Rattle.vr_strings.proofs.KeysSoFar.{AreKeysSoFar}
use Rattle.vr_strings.proofs.items.keys_of.Given as goal

-- the keys of the nodes so far
abbrev pub invariant-loop-node : goal.invariant-loop-node
invariant-loop-node l = AreKeysSoFar l.nodes l.node l.keys
