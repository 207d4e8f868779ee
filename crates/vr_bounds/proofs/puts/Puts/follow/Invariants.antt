use Rattle.std.proofs.Common.{◌≡◌, ◌<◌, ℕ, length}
use Rattle.std.specs.Prelude.{slice_index_or}
use Rattle.vr_bounds.specs.Kept.{MayStand}
use Rattle.vr_bounds.proofs.puts.Puts.follow.Given as goal

abbrev pub invariant-loop-place : goal.invariant-loop-place
invariant-loop-place l = record {
  many : length l.ages ≡ l.place;
  each : (place : ℕ) → place < l.place → MayStand l.driver.closed.model.now l.driver.vehicle l.self l.row place (slice_index_or l.ages place 0);
}
