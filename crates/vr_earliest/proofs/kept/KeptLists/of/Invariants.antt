use Rattle.std.proofs.Common.{◌≡◌, ◌<◌, ℕ, length}
use Rattle.std.specs.Prelude.{slice_index_or}
use Rattle.vr_model.specs.routes.Routes.{route}
use Rattle.vr_earliest.specs.Kept.{HasWays}
use Rattle.vr_earliest.specs.Kept.{KeptWays}
use Rattle.vr_earliest.proofs.kept.KeptLists.of.Given as goal

abbrev pub invariant-loop-v : goal.invariant-loop-v
invariant-loop-v l = record {
  many : length l.lists.items ≡ l.v;
  each : (v : ℕ) (other : KeptWays) → v < length l.lists.items
      → HasWays l.closed.model.now l.d v (route l.routes.lists v) (slice_index_or l.lists.items v other);
}
