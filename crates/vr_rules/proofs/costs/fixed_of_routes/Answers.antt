use Rattle.std.proofs.Common.{◌∙◌, ◌<◌, arith, ap}
use Rattle.std.proofs.lemmas.Int.{ints}
use Rattle.vr_rules.proofs.CostLemmas.{fixed_with, fixed_of_first-more}
use Rattle.vr_model.proofs.routes.Lists.{are_lists-count}
use Rattle.vr_rules.proofs.costs.fixed_of_routes.Goals as goal

pub loop-vehicle-preserved : goal.loop-vehicle-preserved
loop-vehicle-preserved c =
    let now = c.loop-vehicle.invariant in
    let fixed = c.fixed_of_route-total.ensures in
    let value = fixed.value ∙ ap (fixed_with c.args.closed.model.now c.loop-vehicle.vehicle) c.list.ensures.value in
    let more = fixed_of_first-more c.args.closed.model.now c.args.routes.now.lists c.loop-vehicle.vehicle in
    let few : c.loop-vehicle.vehicle < 100 = omega (
      arith,
      c.loop-vehicle-test.true,
      are_lists-count c.args.closed.model.now c.args.routes.now.lists c.requires,
      c.args.closed.well_formed.number_of_vehicles.at_most,
    ) in
    record {
      sum = omega (arith, ints, few, value, fixed.low, fixed.high, more, now.sum, now.low, now.high);
      low = omega (arith, ints, few, fixed, now.low, now.high);
      high = omega (arith, ints, few, fixed, now.low, now.high);
    }
