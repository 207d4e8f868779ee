use Rattle.vr_model.proofs.moves.Changed.{moves_change_lists}
use Rattle.vr_model.proofs.laws.moves_change_lists.Goals as goal

pub returns : goal.returns
returns c = moves_change_lists
