use Rattle.std.proofs.Common.{◌≡◌, ◌*◌, ℕ, List}
use Rattle.vr_model.specs.tables.Numbers.{below, total_by}
use Rattle.vr_plan.specs.Bounds.{cumul_cost, IsAround}
use Rattle.vr_costfilter.specs.EarlyChanges.{IsEarlyOf}
use Rattle.vr_costfilter.specs.GlobalCosts.{AreAllOrders}
use Rattle.vr_costfilter.specs.Spreads.{global_least_in}
use Rattle.vr_costfilter.proofs.spreads.least_of_global_spans.Given as goal

-- what the global spans cost at least in the dimensions so far
abbrev pub invariant-loop-d : goal.invariant-loop-d
invariant-loop-d l = record {
  sum : (lists : List (List ℕ)) → IsEarlyOf l.early lists → AreAllOrders l.early.model.now lists l.orders
      → l.cost ≡ total_by (global_least_in l.early.model.now lists l.early.change.now) (below l.d);
  range : IsAround (cumul_cost * l.d) l.cost;
}
