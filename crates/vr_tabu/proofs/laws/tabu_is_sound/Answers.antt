use Rattle.vr_tabu.proofs.AnswerLemmas.{tabu_is_sound}
use Rattle.vr_tabu.proofs.laws.tabu_is_sound.Goals as goal

pub returns : goal.returns
returns c = tabu_is_sound
