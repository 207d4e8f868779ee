use Rattle.std.proofs.Common.{◌≡◌, ℕ, ◌<◌, ◌≤◌, length}
use Rattle.std.specs.Prelude.{false, slice_index_or}
use Rattle.vr_loads.specs.Loads.{is_load}
use Rattle.vr_reach.specs.KnownRows.{AreRowsIfUsed}
use Rattle.vr_reach.specs.Rows.{BothWays}
use Rattle.vr_ruin.proofs.known.write_each.Given as goal

-- the rows of the dimensions so far are written, and the others are as before
abbrev pub invariant-loop-d : goal.invariant-loop-d
invariant-loop-d l = record {
  long : length l.rows ≡ length l.initial.rows;
  left : (d : ℕ) (other : BothWays) → l.d ≤ d → d < length l.rows → slice_index_or l.rows d other ≡ slice_index_or l.initial.rows d other;
  done : (d : ℕ) (other : BothWays) → d < l.d → d < length l.rows → is_load l.lookups.closed.model.now d ≡ false
      → AreRowsIfUsed l.lookups.closed.model.now d l.v l.lists.list.now (slice_index_or l.rows d other);
}
