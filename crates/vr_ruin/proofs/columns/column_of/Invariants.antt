use Rattle.std.proofs.Common.{◌≡◌, ℕ, ℤ, ◌<◌, length}
use Rattle.std.specs.Prelude.{slice_index_or}
use Rattle.vr_ruin.specs.Columns.{IsEntry}
use Rattle.vr_ruin.proofs.columns.column_of.Given as goal

-- the entries so far
abbrev pub invariant-loop-i : goal.invariant-loop-i
invariant-loop-i l = record {
  long : length l.column ≡ l.i;
  each : (i : ℕ) (other : ℤ) → i < length l.column → IsEntry l.closed.model.now l.m i l.x (slice_index_or l.column i other);
}
