use Rattle.std.proofs.Common.{arith}
use Rattle.std.proofs.lemmas.Int.{ints}
use Rattle.vr_routes.specs.Pairs.{without_two}
use Rattle.vr_arccosts.proofs.RestLemmas.{rest-empty, rest-old}
use Rattle.vr_arccosts.proofs.RunLemmas.{ends-told}
use Rattle.vr_arccosts.proofs.rests.put.Goals as goal

pub returns-then-rest-eq2-clause-value : goal.returns-then-rest-eq2-clause-value
returns-then-rest-eq2-clause-value c =
    let a = c.args in
    let rest = a.rest.now in
    let to = c.cost-to.ensures in
    let on = c.cost-on.ensures in
    let is = ends-told rest.costs.model.now rest.costs.vehicle (without_two rest.list.now rest.lo rest.hi) a.t a.t a.ends.first a.ends.last
    c.node_before-before.ensures.value c.node_at-next.ensures.value to.value on.value
    (rest-empty rest.sound rest.costs.vehicle a.t c.requires.place c.if-rest-eq2.true) in
    omega (arith, ints, is, to.not_negative, to.bound, on.not_negative, on.bound)

pub returns-clause-value : goal.returns-clause-value
returns-clause-value c =
    let r = c.args.rest.now in
    let before = c.node_before-before.ensures.value in
    let next = c.node_at-next.ensures.value in
    let old = c.cost-old.ensures in
    let here = rest-old r.sound r.costs.vehicle c.args.t c.requires.place c.if-rest-eq2.false before next old.value in
    let told = ends-told r.costs.model.now r.costs.vehicle (without_two r.list.now r.lo r.hi) c.args.t c.args.t
    c.args.ends.first c.args.ends.last before next c.cost-to.ensures.value c.cost-on.ensures.value here in
    let to = c.cost-to.ensures in
    let on = c.cost-on.ensures in
    omega (arith, ints, told, to.not_negative, to.bound, on.not_negative, on.bound, old.not_negative, old.bound)
