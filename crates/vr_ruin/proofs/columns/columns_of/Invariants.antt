use Rattle.std.proofs.Common.{◌≡◌, ℕ, ◌<◌, length}
use Rattle.std.specs.Prelude.{slice_index_or}
use Rattle.vr_ruin.specs.declared.columns.MatrixColumns.{MatrixColumns}
use Rattle.vr_ruin.specs.Columns.{AreColumnsOf}
use Rattle.vr_ruin.proofs.columns.columns_of.Given as goal

-- the columns of the matrices so far
abbrev pub invariant-loop-m : goal.invariant-loop-m
invariant-loop-m l = record {
  long : length l.all.items ≡ l.m;
  each : (m : ℕ) (other : MatrixColumns) → m < length l.all.items → AreColumnsOf l.closed.model.now m (slice_index_or l.all.items m other).columns.items;
}
