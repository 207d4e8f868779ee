use Rattle.vr_guided.proofs.AnswerLemmas.{guided_is_sound}
use Rattle.vr_guided.proofs.laws.guided_is_sound.Goals as goal

pub returns : goal.returns
returns c = guided_is_sound
