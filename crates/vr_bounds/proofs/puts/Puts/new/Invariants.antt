use Rattle.std.proofs.Common.{◌≡◌, ◌<◌, ℕ, length}
use Rattle.std.specs.Prelude.{slice_index_or}
use Rattle.vr_bounds.specs.Kept.{unknown}
use Rattle.vr_bounds.proofs.puts.Puts.new.Given as goal

abbrev pub invariant-loop-node : goal.invariant-loop-node
invariant-loop-node l = record {
  many : length l.bounds ≡ l._node;
  unknown : (node : ℕ) → node < l._node → (slice_index_or l.bounds node unknown).stamp ≡ 0;
}
