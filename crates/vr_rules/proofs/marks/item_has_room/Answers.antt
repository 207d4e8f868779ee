use Rattle.std.proofs.Common.{◌∙◌, ap, sym}
use Rattle.std.specs.Prelude.{◌&&◌}
use Rattle.vr_rules.specs.Placing.{has_room_at}
use Rattle.vr_rules.proofs.RoomLemmas.{of_pair, of_pickup, of_visit}
use Rattle.vr_rules.proofs.marks.item_has_room.Goals as goal

pub returns-in-Visit : goal.returns-in-Visit
returns-in-Visit c =
    of_visit (has_room_at c.args.lookups.now.closed.model.now c.args.marks.now) c.args.item
    c.in-Visit.node c.group_has_room.result c.in-Visit.is c.group_has_room.ensures

pub returns-then-group_has_room : goal.returns-then-group_has_room
returns-then-group_has_room c =
    let last = c.group_has_room-then-group_has_room.result in
    sym (ap (λ b. b && last) c.if-group_has_room.true)
    ∙ of_pair (has_room_at c.args.lookups.now.closed.model.now c.args.marks.now) c.args.item
    c.in-PickupAndDelivery.pickup c.in-PickupAndDelivery.delivery c.group_has_room-in-PickupAndDelivery.result last
    c.in-PickupAndDelivery.is c.group_has_room-in-PickupAndDelivery.ensures c.group_has_room-then-group_has_room.ensures

pub returns-else-group_has_room : goal.returns-else-group_has_room
returns-else-group_has_room c =
    of_pickup (has_room_at c.args.lookups.now.closed.model.now c.args.marks.now) c.args.item
    c.in-PickupAndDelivery.pickup c.in-PickupAndDelivery.delivery c.group_has_room-in-PickupAndDelivery.result
    c.in-PickupAndDelivery.is c.group_has_room-in-PickupAndDelivery.ensures c.if-group_has_room.false
