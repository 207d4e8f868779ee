use Rattle.std.proofs.Common.{◌<◌, arith}
use Rattle.std.proofs.lemmas.Int.{ints}
use Rattle.vr_arccosts.proofs.RestLemmas.{rest-apart, rest-together}
use Rattle.vr_arccosts.proofs.rests.put_pair.Goals as goal

pub returns-then-s-t-clause-value : goal.returns-then-s-t-clause-value
returns-then-s-t-clause-value c =
    let put = c.put.ensures in
    let inner = c.cost-inner.ensures in
    let is = rest-together c.args.rest.now.sound c.args.rest.now.costs.vehicle c.args.t c.requires.place c.args.pair c.args.s c.if-s-t.true in
    omega (arith, ints, put.value, inner.value, is, put.range.low, put.range.high, inner.not_negative, inner.bound)

pub returns-clause-value : goal.returns-clause-value
returns-clause-value c =
    let q = c.requires in
    let order : c.args.s < c.args.t = (let low = q.order in let other = c.if-s-t.false in omega (arith, low, other)) in
    let is = rest-apart c.args.rest.now.sound c.args.rest.now.costs.vehicle c.args.t q.place c.args.pair c.args.s order in
    let put = c.put-2.ensures in
    omega (arith, ints, put.value, q.with_pickup, is, put.range.low, put.range.high, q.range.low, q.range.high)
