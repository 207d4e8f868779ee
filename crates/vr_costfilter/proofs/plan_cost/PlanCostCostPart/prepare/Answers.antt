use Rattle.vr_costfilter.proofs.plan_cost.PlanCostCostPart.prepare.Goals as goal

pub make_ready-requires : goal.make_ready-requires
make_ready-requires c = record { change = record { stands = c.requires.stands; made = c.requires.made; valid = c.requires.valid } }
