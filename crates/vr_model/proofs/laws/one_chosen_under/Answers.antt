use Rattle.vr_model.proofs.schedules.UnderRules.{one_chosen_under}
use Rattle.vr_model.proofs.laws.one_chosen_under.Goals as goal

pub returns : goal.returns
returns c = one_chosen_under
