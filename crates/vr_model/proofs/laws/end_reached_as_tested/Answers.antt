use Rattle.vr_model.proofs.schedules.ChoiceLaws.{end_reached_as_tested}
use Rattle.vr_model.proofs.laws.end_reached_as_tested.Goals as goal

pub returns : goal.returns
returns c = end_reached_as_tested
