use Rattle.vr_model.proofs.searches.SearchBounds.{descent_bound_unmet}
use Rattle.vr_model.proofs.laws.descent_bound_unmet.Goals as goal

pub returns : goal.returns
returns c = descent_bound_unmet
