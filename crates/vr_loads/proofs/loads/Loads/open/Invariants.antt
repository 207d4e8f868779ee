use Rattle.std.proofs.Common.{◌≡◌, ◌<◌, ℕ, length}
use Rattle.std.specs.Prelude.{slice_index_or}
use Rattle.vr_model.specs.routes.Routes.{route}
use Rattle.vr_loads.specs.Kept.{IsCarried, nothing_carried}
use Rattle.vr_loads.proofs.loads.Loads.open.Given as goal

abbrev pub invariant-loop-v : goal.invariant-loop-v
invariant-loop-v l = record {
  many : length l.vehicles.items ≡ l.v;
  each : (v : ℕ) → v < l.v → IsCarried l.model l.d v (route l.routes.lists v) (slice_index_or l.vehicles.items v nothing_carried);
}
