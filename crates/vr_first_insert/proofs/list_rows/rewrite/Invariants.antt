use Rattle.std.proofs.Common.{◌≡◌, ℕ, ◌<◌, ◌≤◌, length}
use Rattle.std.specs.Prelude.{slice_index_or}
use Rattle.vr_model.specs.moves.Moves.{with_route}
use Rattle.vr_first_insert.specs.declared.list_rows.ListRows.{ListRows}
use Rattle.vr_first_insert.specs.KeptRows.{AreKeptRowsIn}
use Rattle.vr_first_insert.proofs.list_rows.rewrite.Given as goal

-- the rows of the dimensions so far are written, the others not yet
abbrev pub invariant-loop-d : goal.invariant-loop-d
invariant-loop-d l = record {
  long : length l.list_rows ≡ length l.initial.list_rows;
  done : (d : ℕ) (other : ListRows) → d < l.d → d < length l.list_rows
      → AreKeptRowsIn l.new.lookups.now.closed.model.now d (with_route l.lists l.new.vehicle l.new.nodes.now) (slice_index_or l.list_rows d other);
  left : (d : ℕ) (other : ListRows) → l.d ≤ d → d < length l.list_rows
      → AreKeptRowsIn l.new.lookups.now.closed.model.now d l.lists (slice_index_or l.list_rows d other);
}
