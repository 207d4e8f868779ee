use Rattle.std.proofs.Common.{◌<◌, ℕ}
use Rattle.std.specs.Prelude.{◌≤ℤ◌}
use Rattle.vr_model.specs.tables.Numbers.{number_at}
use Rattle.vr_balance.specs.Sums.{IsUpTo}
use Rattle.vr_usecosts.proofs.groups.most_saved.Given as goal

-- no node so far saves more
abbrev pub invariant-loop-k : goal.invariant-loop-k
invariant-loop-k l = record {
  each : (j : ℕ) → j < l.k → number_at l.saved j ≤ℤ l.most;
  range : IsUpTo 1 l.most;
}
