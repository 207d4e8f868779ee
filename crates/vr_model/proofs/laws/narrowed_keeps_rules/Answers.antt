use Rattle.vr_model.proofs.schedules.UnderRules.{narrowed_keeps_rules}
use Rattle.vr_model.proofs.laws.narrowed_keeps_rules.Goals as goal

pub returns : goal.returns
returns c = narrowed_keeps_rules
