use Rattle.std.proofs.Common.{◌≡◌, ◌+◌, ◌<◌, ◌≤◌, ◌-◌, suc, length, map}
use Rattle.vr_model.specs.tables.Numbers.{from_to}
use Rattle.vr_ruin.specs.Placings.{best_of}
use Rattle.vr_ruin.specs.declared.placing.Placing.TheVariants.{Two}
use Rattle.vr_ruin.proofs.asking.Asker.best_further.Given as goal

-- the best of the places that are left is the best of all
abbrev pub invariant-places : goal.invariant-places
invariant-places l = record {
  model : l.self ≡ l.fn.self;
  begins : l.s < l.t;
  within : l.t ≤ suc (length l.list.nodes.now);
  left : best_of l.fn.self l.list.vehicle l.list.nodes.now l.best (map (Two l.pickup l.delivery l.s) (from_to l.t (suc (length l.list.nodes.now))))
      ≡ best_of l.fn.self l.list.vehicle l.list.nodes.now l.fn.best (map (Two l.pickup l.delivery l.s) (from_to (l.s + 1) (suc (length l.list.nodes.now))));
}

abbrev pub decreases-places : goal.decreases-places
decreases-places l = suc (length l.list.nodes.now) - l.t
