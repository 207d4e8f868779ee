use Rattle.vr_model.proofs.schedules.ChoiceLaws.{reached_as_tested}
use Rattle.vr_model.proofs.laws.reached_as_tested.Goals as goal

pub returns : goal.returns
returns c = reached_as_tested
