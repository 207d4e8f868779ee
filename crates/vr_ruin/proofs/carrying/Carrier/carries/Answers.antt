use Rattle.std.proofs.Common.{◌∙◌, arith, length, sym}
use Rattle.vr_model.proofs.tables.Ranges.{all_begin, all_end, all_go_on, all_stop}
use Rattle.vr_rules.specs.Placing.{item_nodes}
use Rattle.vr_ruin.specs.Carrying.{carries_in}
use Rattle.vr_ruin.proofs.carrying.Carrier.carries.Goals as goal

pub loop-d-init : goal.loop-d-init
loop-d-init c = let list = c.args.list.now in
    all_begin (carries_in list.closed.model.now list.vehicle list.nodes.now (item_nodes c.args.item)) (length list.closed.model.now.dimensions)

pub loop-d-preserved : goal.loop-d-preserved
loop-d-preserved c = let list = c.args.list.now in
    all_go_on (carries_in list.closed.model.now list.vehicle list.nodes.now (item_nodes c.args.item))
    (length list.closed.model.now.dimensions) c.loop-d.d c.loop-d.invariant
    (omega (arith, c.requires.loads.many)) (sym c.carries_in.ensures ∙ c.if-not-carries_in.false)

pub returns-then-not-carries_in : goal.returns-then-not-carries_in
returns-then-not-carries_in c = let list = c.args.list.now in
    all_stop (carries_in list.closed.model.now list.vehicle list.nodes.now (item_nodes c.args.item))
    (length list.closed.model.now.dimensions) c.loop-d.d c.loop-d.invariant
    (omega (arith, c.requires.loads.many)) (sym c.carries_in.ensures ∙ c.if-not-carries_in.true)

pub returns : goal.returns
returns c = let list = c.args.list.now in
    all_end (carries_in list.closed.model.now list.vehicle list.nodes.now (item_nodes c.args.item))
    (length list.closed.model.now.dimensions) c.loop-d.d c.loop-d.invariant
    (omega (arith, c.requires.loads.many))
