use Rattle.std.proofs.Common.{arith}
use Rattle.std.proofs.lemmas.Int.{ints}
use Rattle.vr_arccosts.proofs.PutLemmas.{pair-together}
use Rattle.vr_arccosts.proofs.gaps.put_pair.Goals as goal

pub returns-clause-value : goal.returns-clause-value
returns-clause-value c =
    let put = c.ends_added.ensures in
    let inner = c.cost-inner.ensures in
    let is = pair-together c.args.line.now.costs.model.now c.args.line.now.costs.vehicle c.args.line.now.list.now c.args.pair c.args.s c.requires.place in
    omega (arith, ints, put.value, inner.value, is, put.range.low, put.range.high, inner.not_negative, inner.bound)
