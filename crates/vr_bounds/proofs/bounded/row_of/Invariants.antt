use Rattle.std.proofs.Common.{◌≡◌, take}
use Rattle.vr_bounds.proofs.bounded.row_of.Given as goal

abbrev pub invariant-loop-node : goal.invariant-loop-node
invariant-loop-node l = l.row ≡ take l.node-index l.list
