use Rattle.std.proofs.Common.{◌≡◌, ◌<◌, ℕ, List, length}
use Rattle.std.specs.Prelude.{slice_index_or}
use Rattle.vr_costfilter.specs.Kept.{AreKept, IsPaid}
use Rattle.vr_model.specs.tables.Tables.{dimension_at}
use Rattle.vr_plan.specs.declared.tables.Table.{Table}
use Rattle.vr_costfilter.specs.declared.kept.KeptList.{KeptList}
use Rattle.vr_costfilter.proofs.all_cumuls.AllCumuls.open.Given as goal

abbrev pub invariant-loop-d : goal.invariant-loop-d
invariant-loop-d l = record {
  many : length l.dimensions.items ≡ l.d;
  each : (d : ℕ) (other : List KeptList) → d < length l.dimensions.items
      → AreKept l.closed.model.now d l.routes.lists (slice_index_or l.dimensions.items d other);
  of_each : (d : ℕ) (other : List KeptList) (table : Table) → d < length l.dimensions.items
      → IsPaid l.paid (slice_index_or l.tables d table) (dimension_at l.closed.model.now d)
      → length (slice_index_or l.dimensions.items d other) ≡ length l.routes.lists;
}
