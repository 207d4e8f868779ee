use Rattle.std.proofs.Common.{◌≡◌, suc, length, map}
use Rattle.std.specs.Prelude.{None}
use Rattle.vr_model.specs.tables.Numbers.{each, from_to}
use Rattle.vr_rules.specs.declared.items.Item.TheVariants.{PickupAndDelivery}
use Rattle.vr_ruin.specs.Placings.{best_of, placings_of}
use Rattle.vr_ruin.specs.declared.placing.Placing.TheVariants.{Two}
use Rattle.vr_ruin.proofs.asking.Asker.best_pair.Given as goal

-- the best of the places that are left is the best of all
abbrev pub invariant-loop-s : goal.invariant-loop-s
invariant-loop-s l = record {
  model : l.self ≡ l.fn.self;
  left : best_of l.fn.self l.list.vehicle l.list.nodes.now l.best
      (each (from_to l.s (suc (length l.list.nodes.now))) λ s. map (Two l.pickup l.delivery s) (from_to s (suc (length l.list.nodes.now))))
      ≡ best_of l.fn.self l.list.vehicle l.list.nodes.now None (placings_of l.list.nodes.now (PickupAndDelivery l.pickup l.delivery));
}
