use Rattle.std.proofs.Common.{◌<◌, ◌≤◌, ◌≤ℤ◌, ◌^◌, ℕ, length, pos}
use Rattle.std.specs.Prelude.{neg_ℤ}
use Rattle.vr_first_insert.specs.Increases.{pair_increase}
use Rattle.vr_first_insert.proofs.bound.least_pair.Given as goal

-- the least of the places of the pickup so far
abbrev pub invariant-loop-s : goal.invariant-loop-s
invariant-loop-s l = record {
  least : (s : ℕ) → s < l.s → (t : ℕ) → t ≤ length l.list.nodes.now
      → l.least ≤ℤ pair_increase l.list.lookups.now.closed.model.now l.list.vehicle l.list.nodes.now l.pickup l.delivery s t;
  low : neg_ℤ (pos (2 ^ 41)) ≤ℤ l.least;
  high : l.least ≤ℤ pos (2 ^ 42);
}
