use Rattle.vr_model.proofs.schedules.UnderRules.{narrowed_chooses}
use Rattle.vr_model.proofs.laws.narrowed_chooses.Goals as goal

pub returns : goal.returns
returns c = narrowed_chooses
