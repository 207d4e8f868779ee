use Rattle.std.proofs.Common.{ℕ, ◌<◌, ◌≤◌}
use Rattle.std.specs.Prelude.{◌≤ℤ◌}
use Rattle.vr_arccosts.specs.Runs.{turn_added}
use Rattle.vr_arccosts.proofs.gaps.first_turn.Given as goal

abbrev pub invariant-loop-b : goal.invariant-loop-b
invariant-loop-b l = (b : ℕ) → l.asked.from ≤ b → b < l.b → l.asked.bound ≤ℤ turn_added l.line.costs.model.now l.line.costs.vehicle l.line.list.now l.a b
