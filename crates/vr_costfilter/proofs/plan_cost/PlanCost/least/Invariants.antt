use Rattle.std.proofs.Common.{◌≡◌, ◌*◌, take}
use Rattle.vr_model.specs.tables.Numbers.{total_by}
use Rattle.vr_costfilter.specs.PlanCosts.{list_change, plans_cost, spans_least, ArePlansKnown}
use Rattle.vr_parts.specs.Sums.{part_less}
use Rattle.vr_routes.specs.Tours.{Tours}
use Rattle.vr_plan.specs.Bounds.{IsAround}
use Rattle.vr_costfilter.proofs.plan_cost.PlanCost.least.Given as goal

abbrev pub invariant-loop-k : goal.invariant-loop-k
invariant-loop-k l = record {
  sum : (tours : Tours) → ArePlansKnown l.fn.self l.earlies l.change tours
      → l.least ≡ total_by (part_less (spans_least l.fn.self.model) (plans_cost l.fn.self.model) tours.lists) (take l.k l.change);
  range : IsAround (list_change * l.k) l.least;
}
