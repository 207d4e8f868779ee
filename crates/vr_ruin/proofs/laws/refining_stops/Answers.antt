use Rattle.vr_ruin.proofs.StopLemmas.{refining_stops}
use Rattle.vr_ruin.proofs.laws.refining_stops.Goals as goal

pub returns : goal.returns
returns c = refining_stops
