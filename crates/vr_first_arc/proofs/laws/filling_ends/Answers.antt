use Rattle.vr_first_arc.proofs.EndLemmas.{filling_ends}
use Rattle.vr_first_arc.proofs.laws.filling_ends.Goals as goal

pub returns : goal.returns
returns c = filling_ends
