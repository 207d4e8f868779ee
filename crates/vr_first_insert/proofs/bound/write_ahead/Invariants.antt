use Rattle.std.proofs.Common.{◌≡◌, ◌+◌, ◌<◌, ◌≤◌, ◌≤ℤ◌, ◌^◌, ℕ, ℤ, pos, length}
use Rattle.std.specs.Prelude.{neg_ℤ, slice_index_or}
use Rattle.vr_first_insert.specs.Increases.{visit_increase}
use Rattle.vr_first_insert.specs.Placings.{IsAddedAhead, IsLeastAhead}
use Rattle.vr_first_insert.proofs.bound.write_ahead.Given as goal

-- the least of the last places so far, and those that were written
abbrev pub invariant-loop-k : goal.invariant-loop-k
invariant-loop-k l = record {
  least : (t : ℕ) → length l.list.nodes.now < t + l.k → t ≤ length l.list.nodes.now
      → l.least ≤ℤ visit_increase l.list.lookups.now.closed.model.now l.list.vehicle l.list.nodes.now l.node t;
  added : IsAddedAhead l.list.lookups.now.closed.model.now l.list.vehicle l.list.nodes.now l.node l.k l.least;
  low : neg_ℤ (pos (2 ^ 40)) ≤ℤ l.least;
  high : l.least ≤ℤ pos (2 ^ 41);
  long : length l.ahead ≡ l.k;
  each : (k : ℕ) (d : ℤ) → k < length l.ahead
      → IsLeastAhead l.list.lookups.now.closed.model.now l.list.vehicle l.list.nodes.now l.node k (slice_index_or l.ahead k d);
}
