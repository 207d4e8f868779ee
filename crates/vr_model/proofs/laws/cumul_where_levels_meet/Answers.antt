use Rattle.vr_model.proofs.schedules.Joining.{cumul_where_levels_meet}
use Rattle.vr_model.proofs.laws.cumul_where_levels_meet.Goals as goal

pub returns : goal.returns
returns c = cumul_where_levels_meet
