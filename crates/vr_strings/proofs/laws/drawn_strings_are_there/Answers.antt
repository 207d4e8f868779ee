use Rattle.vr_strings.proofs.DrawnStrings.{drawn_strings_are_there}
use Rattle.vr_strings.proofs.laws.drawn_strings_are_there.Goals as goal

pub returns : goal.returns
returns c = drawn_strings_are_there
