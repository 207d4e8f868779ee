use Rattle.std.proofs.Common.{◌≡◌, ◌<◌, ℕ, length}
use Rattle.std.specs.Prelude.{slice_index_or}
use Rattle.vr_earliest.specs.Floors.{AreFloors}
use Rattle.vr_earliest.specs.declared.floors.Floors.{Floors}
use Rattle.vr_earliest.proofs.earliest.floors_of.Given as goal

abbrev pub invariant-loop-d : goal.invariant-loop-d
invariant-loop-d l = record {
  many : length l.floors.items ≡ l.d;
  each : (d : ℕ) (other : Floors) → d < length l.floors.items → AreFloors l.closed.model.now d (slice_index_or l.floors.items d other);
}
