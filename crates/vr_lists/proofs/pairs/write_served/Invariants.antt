use Rattle.std.proofs.Common.{◌≡◌, ◌≤◌, take}
use Rattle.arrayvec.specs.ArrayVec.{array_vec_len}
use Rattle.vr_lists.specs.Pairs.{served_in}
use Rattle.vr_lists.proofs.pairs.write_served.Given as goal

-- the pairs of the list among those so far, no more than those
abbrev pub invariant-loop-k : goal.invariant-loop-k
invariant-loop-k l = record {
  written : l.served.items ≡ served_in l.list (take l.k l.closed.model.now.pairs);
  few : array_vec_len l.served ≤ l.k;
}
