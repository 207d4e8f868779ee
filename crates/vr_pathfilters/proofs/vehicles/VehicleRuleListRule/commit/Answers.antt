use Rattle.vr_pathfilters.proofs.AfterChanges.{tours_after}
use Rattle.vr_pathfilters.proofs.vehicles.VehicleRuleListRule.commit.Goals as goal

pub returns-clause-knows : goal.returns-clause-knows
returns-clause-knows c = tours_after c.args.self.now.lookups.closed.model.now c.args._routes.now c.requires.knows c.args._change.now c.requires.made
