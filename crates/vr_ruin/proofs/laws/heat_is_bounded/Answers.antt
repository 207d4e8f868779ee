use Rattle.vr_ruin.proofs.StopLemmas.{heat_is_bounded}
use Rattle.vr_ruin.proofs.laws.heat_is_bounded.Goals as goal

pub returns : goal.returns
returns c = heat_is_bounded
