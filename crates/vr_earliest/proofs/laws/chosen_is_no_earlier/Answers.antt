use Rattle.vr_earliest.proofs.NoEarlier.{law}
use Rattle.vr_earliest.proofs.laws.chosen_is_no_earlier.Goals as goal

pub returns : goal.returns
returns c = law
