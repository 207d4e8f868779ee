use Rattle.vr_model.proofs.schedules.UnderRules.{chosen_under_is_chosen}
use Rattle.vr_model.proofs.laws.chosen_under_is_chosen.Goals as goal

pub returns : goal.returns
returns c = chosen_under_is_chosen
