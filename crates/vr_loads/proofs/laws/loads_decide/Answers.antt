use Rattle.vr_model.proofs.schedules.ChoiceLaws.{chosen_where_feasible}
use Rattle.vr_loads.proofs.LoadLines.{decide}
use Rattle.vr_loads.proofs.laws.loads_decide.Goals as goal

pub returns : goal.returns
returns c = decide chosen_where_feasible
