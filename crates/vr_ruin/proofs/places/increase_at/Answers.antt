use Rattle.std.proofs.Common.{◌≡◌, ◌∙◌, ap, arith}
use Rattle.std.proofs.lemmas.Int.{ints}
use Rattle.vr_model.specs.tables.Tables.{arc_cost}
use Rattle.vr_ruin.specs.Increases.{node_after, node_before}
use Rattle.vr_ruin.proofs.places.increase_at.Goals as goal

pub returns : goal.returns
returns c =
    let list = c.args.list.now in
    let model = list.closed.model.now in
    let v = list.vehicle in
    let a = c.arc_from.ensures in
    let b = c.arc_cost-there.ensures in
    let k = c.kept_arc.ensures in
    let to : c.arc_from.result ≡ arc_cost model v (node_before model v list.nodes.now c.args.t) c.args.x = a.value
    ∙ ap (λ n. arc_cost model v n c.args.x) c.node_before-a.ensures.node in
    let from : c.arc_cost-there.result ≡ arc_cost model v c.args.x (node_after model v list.nodes.now c.args.t) = b.value
    ∙ ap (arc_cost model v c.args.x) c.node_after-b.ensures.node in
    omega (arith, ints, to, from, k.value, a.low, a.high, b.not_negative, b.bound, k.low, k.high)
