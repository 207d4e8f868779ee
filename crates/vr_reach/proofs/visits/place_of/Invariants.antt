use Rattle.std.proofs.Common.{◌<◌, ℕ}
use Rattle.std.specs.Prelude.{◌≢◌}
use Rattle.vr_model.specs.tables.Numbers.{number_at}
use Rattle.vr_reach.proofs.visits.place_of.Given as goal

-- none of the capacities so far is this one
abbrev pub invariant-loop-k : goal.invariant-loop-k
invariant-loop-k l = (j : ℕ) → j < l.k → number_at l.capacities j ≢ l.capacity
