use Rattle.std.proofs.Common.{◌≡◌, length}
use Rattle.std.specs.List.{list_all}
use Rattle.vr_model.specs.tables.Numbers.{from_to}
use Rattle.vr_rules.specs.Placing.{item_nodes}
use Rattle.vr_ruin.specs.Carrying.{carries_all, carries_in}
use Rattle.vr_ruin.proofs.carrying.Carrier.carries.Given as goal

-- the vehicle can carry the item in the dimensions that are left exactly if it can in all
abbrev pub invariant-loop-d : goal.invariant-loop-d
invariant-loop-d l =
    list_all (carries_in l.list.closed.model.now l.list.vehicle l.list.nodes.now (item_nodes l.item)) (from_to l.d (length l.list.closed.model.now.dimensions))
    ≡ carries_all l.list.closed.model.now l.list.vehicle l.list.nodes.now (item_nodes l.item)
