use Rattle.vr_first_insert.proofs.EndLemmas.{insertion_ends}
use Rattle.vr_first_insert.proofs.laws.insertion_ends.Goals as goal

pub returns : goal.returns
returns c = insertion_ends
