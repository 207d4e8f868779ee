use Rattle.vr_costfilter.specs.PlanCosts.{AreCosts}
use Rattle.vr_costfilter.proofs.schedule_costs.PlanRules.costs.Given as goal

-- the costs of the lists so far
abbrev pub invariant-loop-v : goal.invariant-loop-v
invariant-loop-v l = AreCosts l.self l.routes.lists l.v l.costs.items
