use Rattle.vr_model.proofs.schedules.UnderRules.{narrowed_to_ends}
use Rattle.vr_model.proofs.laws.narrowed_to_ends.Goals as goal

pub returns : goal.returns
returns c = narrowed_to_ends
