use Rattle.vr_strings.proofs.LawLemmas.{each_item_has_one_turn}
use Rattle.vr_strings.proofs.laws.each_item_has_one_turn.Goals as goal

pub returns : goal.returns
returns c = each_item_has_one_turn
