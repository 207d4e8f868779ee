use Rattle.std.proofs.Common.{ℕ, ◌<◌, ◌≤◌}
use Rattle.std.specs.Prelude.{◌≤ℤ◌, slice_index}
use Rattle.vr_arccosts.specs.Runs.{swap_added}
use Rattle.vr_arccosts.proofs.swaps.first_newcomer.Given as goal

abbrev pub invariant-loop-k : goal.invariant-loop-k
invariant-loop-k l = (j : ℕ) → l.start ≤ j → j < l.k → l.asked.bound
    ≤ℤ swap_added l.line.costs.model.now l.line.costs.vehicle l.line.list.now l.a (slice_index l.visits j)
