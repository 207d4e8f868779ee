use Rattle.vr_ruin.proofs.AnswerLemmas.{refining_answers}
use Rattle.vr_ruin.proofs.laws.refining_answers.Goals as goal

pub returns : goal.returns
returns c = refining_answers
