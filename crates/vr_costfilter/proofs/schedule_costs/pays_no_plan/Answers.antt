use Rattle.std.proofs.Common.{◌∙◌}
use Rattle.vr_costfilter.proofs.PlanLemmas.{free-tables}
use Rattle.vr_costfilter.proofs.schedule_costs.pays_no_plan.Goals as goal

pub returns : goal.returns
returns c model tables = c.are_free.ensures ∙ free-tables model c.args.tables.now tables
