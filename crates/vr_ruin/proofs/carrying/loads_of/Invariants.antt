use Rattle.std.proofs.Common.{◌≡◌, ℕ, Bool, ◌<◌, length}
use Rattle.std.specs.Prelude.{slice_index_or}
use Rattle.vr_loads.specs.Loads.{is_load}
use Rattle.vr_ruin.proofs.carrying.loads_of.Given as goal

-- what is told of the dimensions so far
abbrev pub invariant-loop-d : goal.invariant-loop-d
invariant-loop-d l = record {
  long : length l.loads.items ≡ l.d;
  each : (d : ℕ) (other : Bool) → d < length l.loads.items → slice_index_or l.loads.items d other ≡ is_load l.closed.model.now d;
}
