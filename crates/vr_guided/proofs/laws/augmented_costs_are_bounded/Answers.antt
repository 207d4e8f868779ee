use Rattle.vr_guided.proofs.BoundLemmas.{augmented_costs_are_bounded}
use Rattle.vr_guided.proofs.laws.augmented_costs_are_bounded.Goals as goal

pub returns : goal.returns
returns c = augmented_costs_are_bounded
