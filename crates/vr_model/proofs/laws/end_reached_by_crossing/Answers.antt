use Rattle.vr_model.proofs.schedules.CrossingBack.{end_reached_by_crossing}
use Rattle.vr_model.proofs.laws.end_reached_by_crossing.Goals as goal

pub returns : goal.returns
returns c = end_reached_by_crossing
