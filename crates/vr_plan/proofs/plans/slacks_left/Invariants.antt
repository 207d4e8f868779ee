use Rattle.std.proofs.Common.{◌≡◌, ℕ, suc, ◌<◌, length, ◌-ℤ◌}
use Rattle.std.specs.Prelude.{slice_index_or}
use Rattle.vr_model.specs.tables.Numbers.{number_at}
use Rattle.vr_plan.specs.Plans.{no_hop}
use Rattle.vr_plan.proofs.plans.slacks_left.Given as goal

-- the slacks so far
abbrev pub invariant-loop-k : goal.invariant-loop-k
invariant-loop-k l = record {
  long : length l.slacks ≡ l.k;
  left : (j : ℕ) → j < length l.slacks
      → number_at l.slacks j ≡ (number_at l.cumuls (suc j) -ℤ number_at l.cumuls j) -ℤ (slice_index_or l.hops j no_hop).transit;
}
