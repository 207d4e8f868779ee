use Rattle.std.proofs.Common.{◌≡◌, ℕ, ◌<◌, [], length, All}
use Rattle.std.specs.Prelude.{slice_index_or}
use Rattle.vr_model.specs.tables.Numbers.{number_at}
use Rattle.vr_steps.specs.Levels.{IsCumuls}
use Rattle.vr_plan.specs.Settled.{IsOnly}
use Rattle.vr_plan.proofs.narrow.only_sets.Given as goal

-- the sets so far
abbrev pub invariant-loop-k : goal.invariant-loop-k
invariant-loop-k l = record {
  long : length l.sets ≡ l.k;
  each : (j : ℕ) → j < length l.sets → IsOnly (slice_index_or l.sound.line.now.allowed j []) (number_at l.cumuls j) (slice_index_or l.sets j []);
  cumuls : All IsCumuls l.sets;
}
