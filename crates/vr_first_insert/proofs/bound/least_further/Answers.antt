use Rattle.std.proofs.Common.{arith}
use Rattle.std.proofs.lemmas.Int.{ints}
use Rattle.vr_first_insert.proofs.BoundLemmas.{least-further}
use Rattle.vr_first_insert.proofs.bound.least_further.Goals as goal

pub returns-clause-least : goal.returns-clause-least
returns-clause-least c = λ delivery t is_least behind within.
    let model = c.args.list.now.lookups.now.closed.model.now in
    let list = c.args.list.now.nodes.now in
    let one = c.visit_increase.ensures in
    let here = least-further model c.args.list.now.vehicle list c.args.pickup delivery c.args.s t c.args.least is_least behind within in
    omega (arith, ints, here, one.value, one.low, one.high, c.requires.least.low, c.requires.least.high)

pub returns-clause-low : goal.returns-clause-low
returns-clause-low c =
    let one = c.visit_increase.ensures in
    omega (arith, ints, one.low, one.high, c.requires.least.low, c.requires.least.high)

pub returns-clause-high : goal.returns-clause-high
returns-clause-high c =
    let one = c.visit_increase.ensures in
    omega (arith, ints, one.low, one.high, c.requires.least.low, c.requires.least.high)
