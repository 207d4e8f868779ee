use Rattle.vr_costfilter.proofs.PlanLemmas.{IsCostIn}
use Rattle.vr_costfilter.proofs.schedule_costs.cost_of_plans.Given as goal

-- what the list costs in the dimensions so far
abbrev pub invariant-loop-d : goal.invariant-loop-d
invariant-loop-d l = IsCostIn l.tour.closed.model.now l.tour.v l.tour.list.now l.d l.cost
