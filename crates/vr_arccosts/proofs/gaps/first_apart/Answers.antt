use Rattle.std.proofs.Common.{arith}
use Rattle.std.proofs.lemmas.Int.{ints}
use Rattle.vr_arccosts.proofs.PutLemmas.{pair-apart}
use Rattle.vr_arccosts.proofs.gaps.first_apart.Goals as goal

pub returns-clause-no_less : goal.returns-clause-no_less
returns-clause-no_less c t low high =
    let put = c.ends_added.ensures in
    let base = c.requires.base in
    let order = c.requires.order in
    let within = c.first_gap.ensures.within in
    let places = c.requires.places in
    let is = pair-apart c.args.line.now.costs.model.now c.args.line.now.costs.vehicle c.args.line.now.list.now
    c.args.pair c.args.s t (omega (arith, order, low)) (omega (arith, high, within, places)) in
    let least = c.first_gap.ensures.no_less t low high in
    omega (arith, ints, least, is, put.value, put.range.low, put.range.high, base.low, base.high)
