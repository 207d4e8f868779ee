use Rattle.std.proofs.Common.{◌≡◌, ℕ, ◌<◌, length}
use Rattle.std.specs.Prelude.{slice_index_or}
use Rattle.vr_plan.specs.declared.tables.Table.{Table}
use Rattle.vr_plan.specs.Tables.{IsTable}
use Rattle.vr_plan.proofs.tables.tables_of.Given as goal

-- the tables of the dimensions so far
abbrev pub invariant-loop-d : goal.invariant-loop-d
invariant-loop-d l = record {
  long : length l.tables.items ≡ l.d;
  each : (d : ℕ) (other : Table) → d < length l.tables.items → IsTable l.model d (slice_index_or l.tables.items d other);
}
