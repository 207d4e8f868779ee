use Rattle.vr_model.proofs.moves.MoveMembers.{moves_as_tested}
use Rattle.vr_model.proofs.laws.moves_as_tested.Goals as goal

pub returns : goal.returns
returns c = moves_as_tested
