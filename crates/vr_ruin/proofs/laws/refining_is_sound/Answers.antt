use Rattle.vr_ruin.proofs.AnswerLemmas.{refining_is_sound}
use Rattle.vr_ruin.proofs.laws.refining_is_sound.Goals as goal

pub returns : goal.returns
returns c = refining_is_sound
