use Rattle.vr_model.proofs.schedules.ChoiceLaws.{rules_as_tested}
use Rattle.vr_model.proofs.laws.rules_as_tested.Goals as goal

pub returns : goal.returns
returns c = rules_as_tested
