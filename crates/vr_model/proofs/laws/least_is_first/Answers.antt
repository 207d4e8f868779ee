use Rattle.vr_model.proofs.first.LeastChoice.{least_is_first}
use Rattle.vr_model.proofs.laws.least_is_first.Goals as goal

pub returns : goal.returns
returns g c = least_is_first _
