use Rattle.std.proofs.Common.{◌≡◌, ◌<◌, ℕ, length, get_or}
use Rattle.vr_reach.specs.declared.ends.Ends.{Ends}
use Rattle.vr_reach.specs.Stops.{AreEndsOf}
use Rattle.vr_reach.proofs.ends.ends_of_each.Given as goal

-- the ends of the vehicles so far
abbrev pub invariant-loop-v : goal.invariant-loop-v
invariant-loop-v l = record {
  many : length l.ends.items ≡ l.v;
  each : (v : ℕ) (other : Ends) → v < length l.ends.items → AreEndsOf l.closed.model.now l.d v (get_or l.ends.items v other);
}
