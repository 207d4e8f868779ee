use Rattle.vr_ruin.proofs.LackLemmas.{open_is_valid_without_lack}
use Rattle.vr_ruin.proofs.laws.open_is_valid_without_lack.Goals as goal

pub returns : goal.returns
returns c = open_is_valid_without_lack
