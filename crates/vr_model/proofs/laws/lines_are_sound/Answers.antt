use Rattle.vr_model.proofs.schedules.LinesSound.{lines_are_sound}
use Rattle.vr_model.proofs.laws.lines_are_sound.Goals as goal

pub returns : goal.returns
returns c = lines_are_sound
