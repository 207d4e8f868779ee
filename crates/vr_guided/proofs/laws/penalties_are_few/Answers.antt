use Rattle.vr_guided.proofs.PenaltyLemmas.{penalties_are_few}
use Rattle.vr_guided.proofs.laws.penalties_are_few.Goals as goal

pub returns : goal.returns
returns c = penalties_are_few
