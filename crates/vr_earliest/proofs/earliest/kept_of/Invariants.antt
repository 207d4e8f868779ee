use Rattle.std.proofs.Common.{◌≡◌, ◌<◌, ℕ, List, length}
use Rattle.std.specs.Prelude.{slice_index_or}
use Rattle.vr_earliest.specs.Kept.{HaveWays}
use Rattle.vr_earliest.specs.Kept.{KeptWays}
use Rattle.vr_earliest.proofs.earliest.kept_of.Given as goal

abbrev pub invariant-loop-d : goal.invariant-loop-d
invariant-loop-d l = record {
  many : length l.kept.items ≡ l.d;
  each : (d : ℕ) (other : List KeptWays) → d < length l.kept.items → HaveWays l.closed.model.now d l.routes.lists (slice_index_or l.kept.items d other);
}
