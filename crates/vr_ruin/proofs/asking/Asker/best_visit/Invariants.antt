use Rattle.std.proofs.Common.{◌≡◌, ◌≤◌, ◌-◌, suc, length, map}
use Rattle.std.specs.Prelude.{None}
use Rattle.vr_model.specs.tables.Numbers.{from_to}
use Rattle.vr_rules.specs.declared.items.Item.TheVariants.{Visit}
use Rattle.vr_ruin.specs.Placings.{best_of, no_more_than, placings_of}
use Rattle.vr_ruin.specs.declared.placing.Placing.TheVariants.{One}
use Rattle.vr_ruin.proofs.asking.Asker.best_visit.Given as goal

-- the best of the places that are left is the best of all, as far as the limit allows
abbrev pub invariant-places : goal.invariant-places
invariant-places l = record {
  model : l.self ≡ l.fn.self;
  within : l.t ≤ suc (length l.list.nodes.now);
  left : no_more_than l.limit (best_of l.fn.self l.list.vehicle l.list.nodes.now l.best (map (One l.node) (from_to l.t (suc (length l.list.nodes.now)))))
      ≡ no_more_than l.limit (best_of l.fn.self l.list.vehicle l.list.nodes.now None (placings_of l.list.nodes.now (Visit l.node)));
}

abbrev pub decreases-places : goal.decreases-places
decreases-places l = suc (length l.list.nodes.now) - l.t
