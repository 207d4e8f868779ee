use Rattle.vr_model.proofs.schedules.UnderRules.{chosen_under_where_feasible}
use Rattle.vr_model.proofs.laws.chosen_under_where_feasible.Goals as goal

pub returns : goal.returns
returns c = chosen_under_where_feasible
