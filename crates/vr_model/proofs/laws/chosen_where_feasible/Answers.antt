use Rattle.vr_model.proofs.schedules.ChoiceLaws.{chosen_where_feasible}
use Rattle.vr_model.proofs.laws.chosen_where_feasible.Goals as goal

pub returns : goal.returns
returns c = chosen_where_feasible
