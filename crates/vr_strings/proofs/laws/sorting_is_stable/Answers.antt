use Rattle.vr_strings.proofs.LawLemmas.{sorting_is_stable}
use Rattle.vr_strings.proofs.laws.sorting_is_stable.Goals as goal

pub returns : goal.returns
returns c = sorting_is_stable
