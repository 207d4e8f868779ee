use Rattle.vr_model.proofs.routes.CostFits.{costs_are_bounded}
use Rattle.vr_model.proofs.laws.costs_are_bounded.Goals as goal

pub returns : goal.returns
returns c = costs_are_bounded
