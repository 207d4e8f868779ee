use Rattle.vr_rules.proofs.LocalOpenness.{is_open-local}
use Rattle.vr_rules.proofs.laws.openness_is_local.Goals as goal

pub returns : goal.returns
returns c = is_open-local
