use Rattle.vr_tabu.proofs.SearchLemmas.{bound_unmet}
use Rattle.vr_tabu.proofs.laws.tabu_bound_unmet.Goals as goal

pub returns : goal.returns
returns c = bound_unmet
