use Rattle.std.proofs.Common.{◌≡◌, ◌∙◌, ◌++◌, ◌∷◌, [], arith, sym, ap}
use Rattle.std.proofs.lemmas.Int.{ints}
use Rattle.vr_model.specs.tables.Tables.{no_vehicle}
use Rattle.vr_model.specs.routes.Routes.{route_cost}
use Rattle.vr_model.proofs.routes.Lists.{visit_at}
use Rattle.vr_model.proofs.routes.PathCosts.{path_cost, path_cost-drop, path_cost-end, route_cost-used}
use Rattle.vr_check.proofs.costs.arcs_of_route.Goals as goal

pub loop-node-preserved : goal.loop-node-preserved
loop-node-preserved c =
    let next = path_cost-drop c.args.on.now.closed.model.now c.args.on.now.v c.loop-node.at
    c.get-ends.result.now.end c.args.on.now.list.now c.loop-node.node-index c.loop-node-test.true in
    let arc = c.arc_cost.ensures in
    let so_far = c.loop-node.invariant in
    record {
      sum = omega (arith, ints, next, arc.value, arc.not_negative, arc.bound, so_far.sum, so_far.low, so_far.high, c.loop-node-test.true, c.from-total.ensures);
      low = omega (arith, ints, arc.not_negative, arc.bound, so_far.low, so_far.high, c.loop-node-test.true, c.from-total.ensures);
      high = omega (arith, ints, arc.not_negative, arc.bound, so_far.low, so_far.high, c.loop-node-test.true, c.from-total.ensures);
      at = visit_at c.args.on.now.closed.model.now c.args.on.now.list.now c.loop-node.node-index 0 c.args.on.now.sound.visits c.loop-node-test.true;
    }

pub returns-clause-value : goal.returns-clause-value
returns-clause-value c =
    let model = c.args.on.now.closed.model.now in
    let v = c.args.on.now.v in
    let list = c.args.on.now.list.now in
    let last = c.get-ends.result.now.end in
    let arc = c.arc_cost-2.ensures in
    let so_far = c.loop-node.invariant in
    let ended = path_cost-end model v c.loop-node.at last list c.loop-node.node-index c.loop-node-test.false in
    let used : route_cost model v list ≡ path_cost model v c.get-ends.result.now.start (list ++ last ∷ []) =
    route_cost-used model v list (sym c.if-is_empty.ensures)
    ∙ ap (λ ends. path_cost model v ends.start (list ++ ends.end ∷ [])) (c.get-ends.ensures.value no_vehicle) in
    omega
    (arith, ints, used, ended, arc.value, arc.not_negative, arc.bound, so_far.sum, so_far.low, so_far.high, c.loop-node.auto.node-index-end, c.from.ensures)
