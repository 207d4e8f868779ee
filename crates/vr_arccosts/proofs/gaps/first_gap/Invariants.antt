use Rattle.std.proofs.Common.{ℕ, ◌<◌, ◌≤◌}
use Rattle.std.specs.Prelude.{◌+ℤ◌, ◌≤ℤ◌}
use Rattle.vr_arccosts.specs.Runs.{gap_added}
use Rattle.vr_arccosts.proofs.gaps.first_gap.Given as goal

abbrev pub invariant-loop-t : goal.invariant-loop-t
invariant-loop-t l = (t : ℕ) → l.asked.from ≤ t → t < l.t
    → l.asked.bound ≤ℤ (l.base +ℤ gap_added l.line.costs.model.now l.line.costs.vehicle l.line.list.now l.ends.first l.ends.last t)
