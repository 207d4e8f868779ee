use Rattle.vr_model.proofs.searches.SearchBounds.{guided_bound_unmet}
use Rattle.vr_model.proofs.laws.guided_bound_unmet.Goals as goal

pub returns : goal.returns
returns c = guided_bound_unmet
