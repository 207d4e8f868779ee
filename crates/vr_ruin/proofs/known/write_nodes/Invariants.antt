use Rattle.std.proofs.Common.{◌≡◌, take}
use Rattle.vr_ruin.proofs.known.write_nodes.Given as goal

-- the nodes so far
abbrev pub invariant-loop-k : goal.invariant-loop-k
invariant-loop-k l = l.out ≡ take l.k l.list
