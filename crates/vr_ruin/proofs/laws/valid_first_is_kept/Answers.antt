use Rattle.vr_ruin.proofs.AnswerLemmas.{valid_first_is_kept}
use Rattle.vr_ruin.proofs.laws.valid_first_is_kept.Goals as goal

pub returns : goal.returns
returns c = valid_first_is_kept
