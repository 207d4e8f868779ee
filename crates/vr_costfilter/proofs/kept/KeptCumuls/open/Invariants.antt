use Rattle.std.proofs.Common.{◌≡◌, ◌<◌, ℕ, length}
use Rattle.std.specs.Prelude.{slice_index_or}
use Rattle.vr_model.specs.routes.Routes.{route}
use Rattle.vr_model.specs.tables.Tables.{vehicle_at}
use Rattle.vr_costfilter.specs.Kept.{HasRoom, IsKept}
use Rattle.vr_costfilter.specs.declared.kept.KeptList.{KeptList}
use Rattle.vr_costfilter.proofs.kept.KeptCumuls.open.Given as goal

abbrev pub invariant-loop-v : goal.invariant-loop-v
invariant-loop-v l = record {
  many : length l.lists.items ≡ l.v;
  each : (v : ℕ) (other : KeptList) → v < length l.lists.items
      → IsKept l.closed.model.now l.d v (route l.routes.lists v) (slice_index_or l.lists.items v other);
  room : (v : ℕ) (other : KeptList) → v < length l.lists.items → HasRoom (vehicle_at l.closed.model.now v).schedule (slice_index_or l.lists.items v other);
}
