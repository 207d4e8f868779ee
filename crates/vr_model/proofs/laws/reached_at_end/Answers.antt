use Rattle.vr_model.proofs.schedules.LevelEnds.{reached_at_end}
use Rattle.vr_model.proofs.laws.reached_at_end.Goals as goal

pub returns : goal.returns
returns c = reached_at_end
