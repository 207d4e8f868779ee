use Rattle.vr_given.proofs.FaultLemmas.{faultless-valid}
use Rattle.vr_given.proofs.laws.faultless_is_valid.Goals as goal

pub returns : goal.returns
returns c = faultless-valid
