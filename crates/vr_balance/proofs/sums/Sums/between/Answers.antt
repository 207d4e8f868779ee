use Rattle.std.proofs.Common.{arith}
use Rattle.std.proofs.lemmas.Int.{ints}
use Rattle.vr_balance.proofs.Paths.{sums-between}
use Rattle.vr_balance.proofs.sums.Sums.between.Goals as goal

pub returns-clause-value : goal.returns-clause-value
returns-clause-value c f first nodes h =
    let a = c.at.ensures in
    let b = c.at-2.ensures in
    let few = a.few in
    let order = c.requires.order in
    let place = c.requires.place in
    let s = sums-between f first nodes c.args.self.now c.args.from c.args.to h order place in
    omega (arith, ints, a.value, a.range.low, a.range.high, b.value, b.range.low, b.range.high, s, few, order, place)
