use Rattle.std.proofs.Common.{◌≡◌, ◌<◌, ℕ, length}
use Rattle.std.specs.Prelude.{slice_index_or}
use Rattle.vr_model.specs.routes.Routes.{route}
use Rattle.vr_arccosts.specs.Along.{IsAlong, no_sums}
use Rattle.vr_arccosts.proofs.arcs.ArcCost.open.Given as goal

abbrev pub invariant-loop-v : goal.invariant-loop-v
invariant-loop-v l = record {
  many : length l.along.items ≡ l.v;
  along : (v : ℕ) → v < l.v → IsAlong l.model v (route l.routes.lists v) (slice_index_or l.along.items v no_sums);
}
