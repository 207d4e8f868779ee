use Rattle.std.proofs.Common.{arith}
use Rattle.std.proofs.lemmas.Int.{ints}
use Rattle.vr_steps.proofs.passages.Passage.ends.Goals as goal

pub returns-clause-run : goal.returns-clause-run
returns-clause-run c =
    let low = c.requires.open_way.from_low in
    let high = c.requires.open_way.from_high in
    (omega (arith, ints, low, high), omega (arith, ints, low, high), omega (arith, ints, low, high))
