use Rattle.std.proofs.Common.{◌≡◌, ◌<◌, ℕ, length}
use Rattle.vr_model.specs.tables.Numbers.{number_at}
use Rattle.vr_model.specs.routes.Routes.{route}
use Rattle.vr_costfilter.specs.Kept.{AreAllKept}
use Rattle.vr_routes.specs.Pieces.{changed}
use Rattle.vr_costfilter.specs.PlanCosts.{plans_cost, IsPlanCost}
use Rattle.vr_parts.proofs.SumLemmas.{upto}
use Rattle.vr_costfilter.proofs.plan_cost.PlanCostCostPart.commit.Given as goal

abbrev pub invariant-loop-k : goal.invariant-loop-k
invariant-loop-k l = record {
  model : l.self-inside.rules ≡ l.fn.self.model;
  cumuls : AreAllKept l.fn.self.model (changed l.routes.lists l.change) l.self-inside.cumuls;
  next : l.self-inside.next.items ≡ l.fn.self.next;
  many : length l.self-inside.costs.items ≡ length l.fn.self.costs;
  costs : (u : ℕ) → u < length (upto l.routes.lists l.change l.k)
      → (number_at l.self-inside.costs.items u ≡ plans_cost l.fn.self.model u (route (upto l.routes.lists l.change l.k) u))
      × IsPlanCost (number_at l.self-inside.costs.items u);
}
