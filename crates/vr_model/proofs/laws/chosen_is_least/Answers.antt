use Rattle.vr_model.proofs.schedules.ChoiceLaws.{chosen_is_least}
use Rattle.vr_model.proofs.laws.chosen_is_least.Goals as goal

pub returns : goal.returns
returns c = chosen_is_least
