use Rattle.vr_descent.proofs.RefusedLemmas.{not_less}
use Rattle.vr_descent.proofs.descending.CheaperAccept.open_below.Goals as goal

pub returns-clause-enough : goal.returns-clause-enough
returns-clause-enough c k one valid low = not_less _ low
