use Rattle.vr_ruin.proofs.StopLemmas.{cooling_goes_on}
use Rattle.vr_ruin.proofs.laws.cooling_goes_on.Goals as goal

pub returns : goal.returns
returns c = cooling_goes_on
