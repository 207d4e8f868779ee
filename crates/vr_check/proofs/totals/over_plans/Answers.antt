use Rattle.std.proofs.Common.{◌<◌, ◌≤◌, ◌^◌, arith}
use Rattle.std.proofs.lemmas.Int.{ints}
use Rattle.vr_check.specs.Totals.{plan_cost}
use Rattle.vr_check.proofs.KeptLemmas.{four_plans}
use Rattle.vr_check.proofs.Totalling.{one_more}
use Rattle.vr_check.proofs.totals.over_plans.Goals as goal

pub loop-d-preserved : goal.loop-d-preserved
loop-d-preserved c =
    let on = c.args.on.now in
    let few : c.loop-d.d < 4 =
    omega (arith, c.loop-d-test.true, c.len-d-end.ensures, four_plans on.closed.model.now on.v on.list.now on.route.now on.sound on.closed.well_formed) in
    one_more (plan_cost c.args.part on.closed.model.now on.v on.route.now) (2 ^ 116) c.loop-d.d c.cost_of_plan-total.result
    c.loop-d.invariant c.cost_of_plan-total.ensures.value c.cost_of_plan-total.ensures.range (omega (arith, few))

pub overflow_add-total : goal.overflow_add-total
overflow_add-total c =
    let on = c.args.on.now in
    let few : c.loop-d.d < 4 =
    omega (arith, c.loop-d-test.true, c.len-d-end.ensures, four_plans on.closed.model.now on.v on.list.now on.route.now on.sound on.closed.well_formed) in
    let cost = c.cost_of_plan-total.ensures.range in
    let so_far = c.loop-d.invariant.range in
    omega (arith, ints, few, cost.at_least, cost.at_most, so_far.at_least, so_far.at_most, c.loop-d.total-is)

pub returns-clause-range : goal.returns-clause-range
returns-clause-range c =
    let on = c.args.on.now in
    let few : c.loop-d.d ≤ 4 =
    omega (arith, c.loop-d.auto.d-end, c.len-d-end.ensures, four_plans on.closed.model.now on.v on.list.now on.route.now on.sound on.closed.well_formed) in
    let so_far = c.loop-d.invariant.range in
    record { at_least = omega (arith, ints, few, so_far.at_least); at_most = omega (arith, ints, few, so_far.at_most) }
