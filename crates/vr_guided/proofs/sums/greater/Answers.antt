use Rattle.std.proofs.Common.{arith}
use Rattle.std.proofs.lemmas.Int.{ints, clamps}
use Rattle.vr_guided.proofs.sums.greater.Goals as goal

pub returns-then-one-other : goal.returns-then-one-other
returns-then-one-other c = omega (arith, ints, clamps, c.if-one-other.true, c.ranges.one, c.ranges.other)

pub returns-else-one-other : goal.returns-else-one-other
returns-else-one-other c = omega (arith, ints, clamps, c.if-one-other.false, c.ranges.one, c.ranges.other)
