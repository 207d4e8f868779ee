use Rattle.vr_model.proofs.schedules.RunCounts.{runs_as_long_as_form}
use Rattle.vr_model.proofs.laws.runs_as_long_as_form.Goals as goal

pub returns : goal.returns
returns g c = runs_as_long_as_form _
