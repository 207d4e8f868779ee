use Rattle.vr_model.proofs.routes.Assigned.{chosen_plans_are_there}
use Rattle.vr_model.proofs.laws.chosen_plans_are_there.Goals as goal

pub returns : goal.returns
returns c = chosen_plans_are_there
