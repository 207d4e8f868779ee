use Rattle.std.proofs.Common.{◌≡◌, ◌∙◌, ◌<◌, ◌^◌, length, ap, arith}
use Rattle.std.proofs.lemmas.Int.{ints}
use Rattle.vr_model.specs.tables.Numbers.{total_by, below}
use Rattle.vr_check.specs.Totals.{part_cost, part_of}
use Rattle.vr_check.proofs.KeptLemmas.{few_routes}
use Rattle.vr_check.proofs.Totalling.{one_more}
use Rattle.vr_check.proofs.totals.over_routes.Goals as goal

pub loop-v-preserved : goal.loop-v-preserved
loop-v-preserved c =
    let of = c.args.solution.now in
    let few : c.loop-v.v < 100 =
    omega (arith, c.loop-v-test.true, few_routes of.closed.model.now of.printed.now of.lists.now of.routes.now of.sound of.closed.well_formed) in
    let value = c.cost_of_route-total.ensures.value ∙ ap (part_cost c.args.part) c.route-on.ensures in
    one_more (part_of c.args.part of) (2 ^ 118) c.loop-v.v c.cost_of_route-total.result
    c.loop-v.invariant value c.cost_of_route-total.ensures.range (omega (arith, few))

pub overflow_add-total : goal.overflow_add-total
overflow_add-total c =
    let of = c.args.solution.now in
    let few : c.loop-v.v < 100 =
    omega (arith, c.loop-v-test.true, few_routes of.closed.model.now of.printed.now of.lists.now of.routes.now of.sound of.closed.well_formed) in
    let cost = c.cost_of_route-total.ensures.range in
    let so_far = c.loop-v.invariant.range in
    omega (arith, ints, few, cost.at_least, cost.at_most, so_far.at_least, so_far.at_most, c.loop-v.total-is)

pub returns : goal.returns
returns c =
    let of = c.args.solution.now in
    let ended : c.loop-v.v ≡ length of.routes.now = omega (arith, c.loop-v-test.false, c.loop-v.auto.v-end) in
    c.loop-v.invariant.sum ∙ ap (λ n. total_by (part_of c.args.part of) (below n)) ended
