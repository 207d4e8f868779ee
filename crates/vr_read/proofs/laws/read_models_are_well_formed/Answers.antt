use Rattle.vr_read.proofs.WellFormedModels.{well_formed_from_read}
use Rattle.vr_read.proofs.laws.read_models_are_well_formed.Goals as goal

pub returns : goal.returns
returns c = well_formed_from_read
