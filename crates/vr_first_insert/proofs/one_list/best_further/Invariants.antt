use Rattle.std.proofs.Common.{◌≡◌, ◌+◌, suc, length}
use Rattle.std.specs.Prelude.{fold, insert, map}
use Rattle.vr_model.specs.tables.Numbers.{from_to}
use Rattle.vr_first_insert.specs.Probes.{AreReachedAt}
use Rattle.vr_first_insert.specs.VehicleLists.{pair_before, weigh_in}
use Rattle.vr_first_insert.proofs.one_list.best_further.Given as goal

-- the best of the places that are left beside the best so far is the best of all; the probes stand before the place,
-- and the delivery is written before the place before it
abbrev pub invariant-loop-t : goal.invariant-loop-t
invariant-loop-t l = record {
  best : fold (weigh_in l.begun.pair.list) l.best (map (pair_before l.begun.pair l.begun.s) (from_to l.t (suc (length l.begun.pair.list.nodes.now))))
      ≡ fold (weigh_in l.begun.pair.list) l.initial.best
      (map (pair_before l.begun.pair l.begun.s) (from_to (l.begun.s + 1) (suc (length l.begun.pair.list.nodes.now))));
  reached : AreReachedAt l.begun.pair.list.lookups.now.closed.model.now l.begun.pair.list.vehicle l.begun.half.now (l.t + 1) l.probes;
  longer : l.trying.longer ≡ insert l.begun.half.now l.t l.begun.pair.delivery;
}
