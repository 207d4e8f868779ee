use Rattle.vr_ruin.proofs.Remade.{steps_stay_open}
use Rattle.vr_ruin.proofs.laws.steps_stay_open.Goals as goal

pub returns : goal.returns
returns c = steps_stay_open
