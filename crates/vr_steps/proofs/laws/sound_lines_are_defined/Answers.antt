use Rattle.vr_steps.proofs.LawLemmas.{sound_lines_are_defined as law}
use Rattle.vr_steps.proofs.laws.sound_lines_are_defined.Goals as goal

pub returns : goal.returns
returns c = law
