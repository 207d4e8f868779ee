use Rattle.vr_model.proofs.schedules.Joining.{feasible_where_levels_meet}
use Rattle.vr_model.proofs.laws.feasible_where_levels_meet.Goals as goal

pub returns : goal.returns
returns c = feasible_where_levels_meet
