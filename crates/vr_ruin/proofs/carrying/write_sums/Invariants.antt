use Rattle.std.proofs.Common.{◌≡◌, ℕ, ℤ, ◌<◌, length}
use Rattle.std.specs.Prelude.{slice_index_or}
use Rattle.vr_ruin.specs.Carrying.{IsSumIn}
use Rattle.vr_ruin.proofs.carrying.write_sums.Given as goal

-- what is taken in the dimensions so far
abbrev pub invariant-loop-d : goal.invariant-loop-d
invariant-loop-d l = record {
  long : length l.sums ≡ l.d;
  each : (d : ℕ) (other : ℤ) → d < length l.sums → IsSumIn l.list.closed.model.now l.list.vehicle l.list.nodes.now d (slice_index_or l.sums d other);
}
