use Rattle.vr_model.proofs.moves.KeptLists.{moves_keep_lists}
use Rattle.vr_model.proofs.laws.moves_keep_lists.Goals as goal

pub returns : goal.returns
returns c = moves_keep_lists
