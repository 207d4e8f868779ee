use Rattle.std.proofs.Common.{◌≡◌, ◌<◌, ℕ, [], length}
use Rattle.std.specs.Prelude.{slice_index_or}
use Rattle.vr_model.specs.declared.records.Allowed.{Allowed}
use Rattle.vr_lists.specs.Nodes.{AreMarksOf}
use Rattle.vr_lists.proofs.nodes.row_marks.Given as goal

-- the marks of the rows so far
abbrev pub invariant-loop-k : goal.invariant-loop-k
invariant-loop-k l = record {
  long : length l.marks ≡ l.k;
  each : (k : ℕ) (other : Allowed) → k < l.k → AreMarksOf (slice_index_or l.closed.model.now.allowed k other) (slice_index_or l.marks k []);
}
