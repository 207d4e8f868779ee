use Rattle.vr_steps.proofs.LawLemmas.{lines_stand_for_theirs as law}
use Rattle.vr_steps.proofs.laws.lines_stand_for_theirs.Goals as goal

pub returns : goal.returns
returns c = law
