use Rattle.std.proofs.Common.{arith}
use Rattle.std.proofs.lemmas.Int.{ints}
use Rattle.vr_arccosts.proofs.gaps.swapped.Goals as goal

pub returns-clause-value : goal.returns-clause-value
returns-clause-value c = let added = c.ends_added.ensures in omega (arith, ints, added.value, added.range.low, added.range.high)
