use Rattle.vr_lns.proofs.BoundLemmas.{bound_unmet}
use Rattle.vr_lns.proofs.laws.path_lns_bound_unmet.Goals as goal

pub returns : goal.returns
returns c = bound_unmet
