use Rattle.vr_lns.proofs.AnswerLemmas.{path_lns_is_sound}
use Rattle.vr_lns.proofs.laws.path_lns_is_sound.Goals as goal

pub returns : goal.returns
returns c = path_lns_is_sound
