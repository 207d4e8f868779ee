use Rattle.std.proofs.Common.{ℕ, ◌<◌, ◌≤◌, length}
use Rattle.std.specs.Prelude.{◌≤ℤ◌}
use Rattle.vr_arccosts.specs.Runs.{gap_added}
use Rattle.vr_bounds.specs.Kept.{age_at}
use Rattle.vr_bounds.proofs.puts.Puts.lowered.Given as goal

abbrev pub invariant-loop-place : goal.invariant-loop-place
invariant-loop-place l = record {
  done : (place : ℕ) → place < l.place → l.least ≤ℤ gap_added l.driver.closed.model.now l.driver.vehicle l.self.row l.node l.node place;
  rest : (place : ℕ) → place ≤ length l.self.row → age_at l.self place ≤ l.stamp
      → l.least ≤ℤ gap_added l.driver.closed.model.now l.driver.vehicle l.self.row l.node l.node place;
}
