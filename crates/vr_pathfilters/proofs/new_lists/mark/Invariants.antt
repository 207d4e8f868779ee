use Rattle.std.proofs.Common.{◌≡◌, ◌<◌, ℕ, length}
use Rattle.vr_pathfilters.proofs.PairLemmas.{IsMarkedAt}
use Rattle.vr_pathfilters.proofs.new_lists.mark.Given as goal

-- the nodes so far are marked
abbrev pub invariant-loop-k : goal.invariant-loop-k
invariant-loop-k l = record {
  long : length l.marks ≡ length l.fn.marks;
  marked : (j : ℕ) → j < l.k → IsMarkedAt l.list l.marks j;
}
