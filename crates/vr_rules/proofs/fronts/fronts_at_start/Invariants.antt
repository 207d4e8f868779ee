use Rattle.std.proofs.Common.{◌≡◌, ℕ, ◌<◌, [], length}
use Rattle.std.specs.Prelude.{slice_index_or}
use Rattle.vr_rules.specs.declared.fronts.Front.{Front}
use Rattle.vr_rules.specs.Fronts.{IsFrontOf}
use Rattle.vr_rules.proofs.fronts.fronts_at_start.Given as goal

-- the fronts of the dimensions so far
abbrev pub invariant-loop-d : goal.invariant-loop-d
invariant-loop-d l = record {
  long : length l.fronts.items ≡ l.d;
  each : (d : ℕ) (other : Front) → d < length l.fronts.items → IsFrontOf l.closed.model.now d l.v [] (slice_index_or l.fronts.items d other);
}
