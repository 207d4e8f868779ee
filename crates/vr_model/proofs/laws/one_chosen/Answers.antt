use Rattle.vr_model.proofs.schedules.ChoiceLaws.{one_chosen}
use Rattle.vr_model.proofs.laws.one_chosen.Goals as goal

pub returns : goal.returns
returns c = one_chosen
