use Rattle.std.proofs.Common.{◌≡◌}
use Rattle.std.specs.Prelude.{fold}
use Rattle.vr_model.specs.tables.Numbers.{below, each}
use Rattle.vr_first_insert.specs.Placings.{AreLeastAhead}
use Rattle.vr_first_insert.specs.VehicleLists.{weigh_in}
use Rattle.vr_first_insert.proofs.InsertLemmas.{deliveries}
use Rattle.vr_first_insert.proofs.one_list.best_pair.Given as goal

-- the best beside the places of the pickup so far; what the delivery adds at least is written
abbrev pub invariant-loop-s : goal.invariant-loop-s
invariant-loop-s l = record {
  best : l.best ≡ fold (weigh_in l.pair.list)
      l.initial.best (each (below l.s)
      (deliveries l.pair.list.lookups.now.closed.model.now l.pair.list.vehicle l.pair.list.nodes.now l.pair.class l.pair.pickup l.pair.delivery));
  ahead : AreLeastAhead l.pair.list.lookups.now.closed.model.now l.pair.list.vehicle l.pair.list.nodes.now l.pair.delivery l.scratch.ahead;
}
