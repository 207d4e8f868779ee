use Rattle.std.proofs.Common.{◌≡◌, ◌*◌, take}
use Rattle.vr_model.specs.tables.Numbers.{total_by}
use Rattle.vr_parts.specs.Sums.{part_change}
use Rattle.vr_costfilter.specs.PlanCosts.{list_change, plans_cost}
use Rattle.vr_plan.specs.Bounds.{IsAround}
use Rattle.vr_costfilter.proofs.plan_cost.PlanCostCostPart.difference.Given as goal

abbrev pub invariant-loop-k : goal.invariant-loop-k
invariant-loop-k l = record {
  total : l.total ≡ total_by (part_change (plans_cost l.fn.self.model) l.routes.lists) (take l.k l.change);
  range : IsAround (list_change * l.k) l.total;
}
