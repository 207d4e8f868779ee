use Rattle.vr_known.proofs.PassingLemmas.{covers_none, takes_unknown}
use Rattle.vr_known.proofs.moves.MovesIterator.next.Goals as goal

pub returns-clause-steps : goal.returns-clause-steps
returns-clause-steps g c = takes_unknown _ (covers_none c.none.result c.none.ensures.none) _ _ _ _ _ c.step.ensures.takes
