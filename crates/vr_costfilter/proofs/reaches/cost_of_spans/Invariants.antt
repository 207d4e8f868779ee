use Rattle.std.proofs.Common.{◌≡◌, ◌*◌}
use Rattle.vr_model.specs.tables.Numbers.{total_by, below}
use Rattle.vr_plan.specs.Bounds.{cumul_cost, IsAround}
use Rattle.vr_costfilter.specs.GlobalCosts.{span_cost_after}
use Rattle.vr_costfilter.proofs.reaches.cost_of_spans.Given as goal

-- what the global spans cost in the dimensions so far
abbrev pub invariant-loop-d : goal.invariant-loop-d
invariant-loop-d l = record {
  sum : l.cost ≡ total_by (span_cost_after l.closed.model.now l.orders l.vehicles l.next) (below l.d);
  range : IsAround (cumul_cost * l.d) l.cost;
}
