use Rattle.vr_given.proofs.BeginLemmas.{begun-given}
use Rattle.vr_given.proofs.laws.valid_is_begun.Goals as goal

pub returns : goal.returns
returns c = begun-given
