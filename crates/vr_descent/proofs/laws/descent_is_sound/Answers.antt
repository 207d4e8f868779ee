use Rattle.vr_descent.proofs.AnswerLemmas.{descent_is_sound}
use Rattle.vr_descent.proofs.laws.descent_is_sound.Goals as goal

pub returns : goal.returns
returns c = descent_is_sound
