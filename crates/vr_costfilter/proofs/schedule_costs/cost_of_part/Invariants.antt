use Rattle.vr_costfilter.specs.PartsAfter.{list_after, vehicle_after}
use Rattle.vr_costfilter.proofs.PlanLemmas.{IsCostIn}
use Rattle.vr_costfilter.proofs.schedule_costs.cost_of_part.Given as goal

-- what the list costs in the dimensions so far
abbrev pub invariant-loop-d : goal.invariant-loop-d
invariant-loop-d l = IsCostIn l.part.model.now (vehicle_after l.part) (list_after l.part) l.d l.cost
