use Rattle.std.proofs.Common.{◌≡◌, ◌∙◌, ◌<◌, ℕ, All, length, arith, ap, subst, sym}
use Rattle.std.proofs.lemmas.Int.{ints}
use Rattle.vr_model.specs.routes.Routes.{route, route_cost}
use Rattle.vr_rules.proofs.CostLemmas.{arcs_of_first-more}
use Rattle.vr_model.proofs.routes.Lists.{are_lists-count, route-below, route-few}
use Rattle.vr_rules.proofs.costs.arcs_of_routes.Goals as goal

pub arcs_of_route-total-requires-clause-nodes : goal.arcs_of_route-total-requires-clause-nodes
arcs_of_route-total-requires-clause-nodes c =
    let lists = c.args.routes.now.lists in
    let v = c.loop-vehicle.vehicle in
    let Below : ℕ → Type 0 = λ node. node < c.args.closed.model.now.nodes in
    subst (All Below) (sym c.list.ensures.value) (route-below c.args.closed.model.now lists v c.requires)

pub arcs_of_route-total-requires-clause-few : goal.arcs_of_route-total-requires-clause-few
arcs_of_route-total-requires-clause-few c =
    let lists = c.args.routes.now.lists in
    let v = c.loop-vehicle.vehicle in
    omega (arith, ap length c.list.ensures.value, route-few c.args.closed.model.now lists v c.requires, c.args.closed.well_formed.number_of_nodes.1)

pub loop-vehicle-preserved : goal.loop-vehicle-preserved
loop-vehicle-preserved c =
    let model = c.args.closed.model.now in
    let lists = c.args.routes.now.lists in
    let v = c.loop-vehicle.vehicle in
    let arcs = c.arcs_of_route-total.ensures in
    let value : c.arcs_of_route-total.result ≡ route_cost model v (route lists v) = arcs.value ∙ ap (route_cost model v) c.list.ensures.value in
    let few : v < 100 = omega (arith, c.loop-vehicle-test.true, are_lists-count model lists c.requires, c.args.closed.well_formed.number_of_vehicles.at_most) in
    record {
      sum = omega (
        arith,
        ints,
        few,
        value,
        arcs.low,
        arcs.high,
        arcs_of_first-more model lists v,
        c.loop-vehicle.invariant.sum,
        c.loop-vehicle.invariant.low,
        c.loop-vehicle.invariant.high,
      );
      low = omega (arith, ints, few, arcs.low, arcs.high, c.loop-vehicle.invariant.low, c.loop-vehicle.invariant.high);
      high = omega (arith, ints, few, arcs.low, arcs.high, c.loop-vehicle.invariant.low, c.loop-vehicle.invariant.high);
    }
