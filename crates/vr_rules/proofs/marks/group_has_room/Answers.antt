use Rattle.std.proofs.Common.{◌≡◌, ◌∙◌, ap, arith}
use Rattle.vr_lists.specs.Nodes.{group_number, no_group}
use Rattle.vr_rules.proofs.RoomLemmas.{room_free, room_in}
use Rattle.vr_rules.proofs.marks.group_has_room.Goals as goal

pub returns-then-g-len : goal.returns-then-g-len
returns-then-g-len c =
    let at : c.group_number-g.result ≡ group_number c.args.lookups.now.closed.model.now c.args.node = c.group_number-g.ensures
    ∙ ap (λ m. group_number m c.args.node) c.nodes.ensures in
    c.has_room.ensures
    ∙ room_in c.args.lookups.now.closed.model.now c.args.marks.now c.args.item c.args.node c.group_number-g.result
    c.get.result.now at (omega (arith, c.if-g-len.true, c.len.ensures)) (c.get.ensures.value no_group)

pub returns : goal.returns
returns c =
    let at : c.group_number-g.result ≡ group_number c.args.lookups.now.closed.model.now c.args.node = c.group_number-g.ensures
    ∙ ap (λ m. group_number m c.args.node) c.nodes.ensures in
    room_free c.args.lookups.now.closed.model.now c.args.marks.now c.args.item c.args.node
    c.group_number-g.result at (omega (arith, c.if-g-len.false, c.len.ensures))
