use Rattle.std.proofs.Common.{◌∙◌, ap, sym}
use Rattle.vr_costfilter.specs.PlanCosts.{pays_no_plan}
use Rattle.vr_costfilter.proofs.schedule_costs.PlanRules.over.Goals as goal

pub invariant_of-result : goal.invariant_of-result
invariant_of-result c = c.pays_no_plan-idle.ensures c.args.lookups.now.closed.model.now c.tables.ensures ∙ ap pays_no_plan (sym c.in_ok-share.ensures)
