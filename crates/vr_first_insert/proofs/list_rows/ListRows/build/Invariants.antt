use Rattle.std.proofs.Common.{◌≡◌, length}
use Rattle.vr_first_insert.specs.KeptRows.{AreRowsOfEach}
use Rattle.vr_first_insert.proofs.list_rows.ListRows.build.Given as goal

-- the rows of the lists so far
abbrev pub invariant-loop-v : goal.invariant-loop-v
invariant-loop-v l = record {
  long : length l.known.items ≡ l.v;
  each : AreRowsOfEach l.lookups.closed.model.now l.d l.lists l.known.items;
}
