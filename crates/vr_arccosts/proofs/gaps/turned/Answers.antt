use Rattle.std.proofs.Common.{◌+◌, ◌≤◌, length, arith}
use Rattle.std.proofs.lemmas.Int.{ints}
use Rattle.vr_arccosts.proofs.gaps.turned.Goals as goal

pub returns-clause-value : goal.returns-clause-value
returns-clause-value c =
    let line = c.args.line.now in
    let beside = c.ends_added-beside.ensures in
    let inner = c.chain-inner.ensures in
    let place = c.requires.place in
    let within : c.args.b + 1 ≤ length line.list.now = omega (arith, place) in
    let inner-is = inner.value line.costs.model.now line.costs.vehicle line.list.now line.sound.sums within in
    omega (arith, ints, beside.value, inner-is, beside.range.low, beside.range.high, inner.range.at_least, inner.range.at_most)
