use Rattle.std.proofs.Common.{ℕ, ◌<◌, ◌≤◌}
use Rattle.std.specs.Prelude.{◌+ℤ◌, ◌≤ℤ◌, slice_index}
use Rattle.vr_arccosts.specs.Runs.{swap_added}
use Rattle.vr_arccosts.proofs.gaps.first_swap.Given as goal

abbrev pub invariant-loop-b : goal.invariant-loop-b
invariant-loop-b l = (b : ℕ) → l.asked.from ≤ b → b < l.b → l.asked.bound
    ≤ℤ (swap_added l.line.costs.model.now l.line.costs.vehicle l.line.list.now l.a (slice_index l.other.list.now b)
    +ℤ swap_added l.line.costs.model.now l.other.costs.vehicle l.other.list.now b (slice_index l.line.list.now l.a))
