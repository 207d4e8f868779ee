use Rattle.std.proofs.Common.{◌≡◌, false, replicate}
use Rattle.vr_lists.proofs.nodes.no_marks.Given as goal

abbrev pub invariant-loop-place : goal.invariant-loop-place
invariant-loop-place l = l.marks.items ≡ replicate l._place false
