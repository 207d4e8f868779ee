use Rattle.std.proofs.Common.{◌≡◌, ℕ, ◌<◌, length}
use Rattle.std.specs.Prelude.{slice_index_or}
use Rattle.vr_first_insert.specs.declared.list_rows.ListRows.{ListRows}
use Rattle.vr_first_insert.specs.KeptRows.{AreKeptRowsIn}
use Rattle.vr_first_insert.proofs.list_rows.keep_each.Given as goal

-- what is kept in the dimensions so far
abbrev pub invariant-loop-d : goal.invariant-loop-d
invariant-loop-d l = record {
  long : length l.list_rows.items ≡ l.d;
  each : (d : ℕ) (other : ListRows) → d < length l.list_rows.items
      → AreKeptRowsIn l.lookups.closed.model.now d l.lists (slice_index_or l.list_rows.items d other);
}
