use Rattle.std.proofs.Common.{◌<◌, ap, arith, subst}
use Rattle.std.specs.Prelude.{All}
use Rattle.std.proofs.lemmas.Int.{ints}
use Rattle.vr_model.specs.tables.Numbers.{total_by}
use Rattle.vr_loads.specs.Loads.{taken}
use Rattle.vr_rules.specs.Placing.{item_nodes}
use Rattle.vr_ruin.proofs.carrying.taken_by.Goals as goal

pub taken-requires-clause-node : goal.taken-requires-clause-node
taken-requires-clause-node c =
    subst (λ item. All (λ node. node < c.args.list.now.closed.model.now.nodes) (item_nodes item)) c.in-Visit.is c.requires.nodes 0 0 (omega arith)

pub taken-requires-in-PickupAndDelivery-clause-node : goal.taken-requires-in-PickupAndDelivery-clause-node
taken-requires-in-PickupAndDelivery-clause-node c =
    subst (λ item. All (λ node. node < c.args.list.now.closed.model.now.nodes) (item_nodes item)) c.in-PickupAndDelivery.is c.requires.nodes 0 0 (omega arith)

pub taken-requires-in-PickupAndDelivery-2-clause-node : goal.taken-requires-in-PickupAndDelivery-2-clause-node
taken-requires-in-PickupAndDelivery-2-clause-node c =
    subst (λ item. All (λ node. node < c.args.list.now.closed.model.now.nodes) (item_nodes item)) c.in-PickupAndDelivery.is c.requires.nodes 1 0 (omega arith)

pub returns-in-PickupAndDelivery-clause-value : goal.returns-in-PickupAndDelivery-clause-value
returns-in-PickupAndDelivery-clause-value c =
    let f = taken c.args.list.now.closed.model.now c.args.d c.args.list.now.vehicle in
    let a = c.taken-in-PickupAndDelivery.ensures in
    let b = c.taken-in-PickupAndDelivery-2.ensures in
    let item = ap (λ item. total_by f (item_nodes item)) c.in-PickupAndDelivery.is in
    omega (arith, ints, a.value, b.value, a.range.low, a.range.high, b.range.low, b.range.high, item)
