use Rattle.std.proofs.Common.{◌≡◌, ℕ, ◌<◌, ◌≤◌, take}
use Rattle.std.specs.Prelude.{◌≤ℤ◌}
use Rattle.vr_model.specs.tables.Tables.{arc_cost}
use Rattle.vr_arccosts.specs.Bounds.{IsChainCost}
use Rattle.vr_arccosts.specs.Chains.{chain_sum}
use Rattle.vr_arccosts.specs.Runs.{fronts_added}
use Rattle.vr_arccosts.proofs.fronts.first_front.Given as goal

abbrev pub invariant-loop-b : goal.invariant-loop-b
invariant-loop-b l = record {
  no_less : (b : ℕ) → l.asked.from ≤ b → b < l.b
      → l.asked.bound ≤ℤ fronts_added l.line.costs.model.now l.line.costs.vehicle l.line.list.now l.other.costs.vehicle l.other.list.now l.a b;
  inner : l.inner ≡ chain_sum (arc_cost l.line.costs.model.now l.line.costs.vehicle) (take l.b l.other.list.now);
  range : IsChainCost l.inner;
}
