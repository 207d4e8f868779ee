use Rattle.std.proofs.Common.{◌≡◌, ℕ, ℤ, ◌<◌, List, length}
use Rattle.std.specs.Prelude.{slice_index_or}
use Rattle.vr_ruin.specs.Columns.{IsColumn}
use Rattle.vr_ruin.proofs.columns.columns_in.Given as goal

-- the columns so far
abbrev pub invariant-loop-x : goal.invariant-loop-x
invariant-loop-x l = record {
  long : length l.columns.items ≡ l.x;
  each : (x : ℕ) (other : List ℤ) → x < length l.columns.items → IsColumn l.closed.model.now l.m x (slice_index_or l.columns.items x other);
}
