use Rattle.std.proofs.Common.{◌≡◌, ◌<◌, ◌≤◌, ℕ, length}
use Rattle.vr_first_insert.specs.Kept.{AreKnownRows}
use Rattle.vr_first_insert.specs.Waiting.{waiting_at, waiting_candidates, IsWaiting, IsWaitingElsewhere}
use Rattle.vr_first_insert.proofs.waiting.lower.Given as goal

-- what is known of the waiting items so far is so, and that of the others where the list has changed
abbrev pub invariant-loop-k : goal.invariant-loop-k
invariant-loop-k l = record {
  many : length l.waiting ≡ length l.initial.waiting;
  done : (k : ℕ) → k < l.k → IsWaiting l.items.lookups.now.closed.model.now l.lists l.items.candidates.now (waiting_at l.waiting k);
  left : (k : ℕ) → l.k ≤ k → k < length l.waiting
      → IsWaitingElsewhere l.items.lookups.now.closed.model.now l.lists l.v l.items.candidates.now (waiting_at l.waiting k);
  known : AreKnownRows l.items.lookups.now.closed.model.now l.lists l.items.candidates.now l.known_items;
  same : waiting_candidates l.items.candidates.now l.waiting ≡ waiting_candidates l.items.candidates.now l.initial.waiting;
}
