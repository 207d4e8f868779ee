use Rattle.vr_given.proofs.BeginLemmas.{begin-valid}
use Rattle.vr_given.proofs.laws.begin_is_valid.Goals as goal

pub returns : goal.returns
returns c = begin-valid
