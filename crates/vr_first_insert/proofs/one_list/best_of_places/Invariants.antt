use Rattle.std.proofs.Common.{◌≡◌, ◌+◌}
use Rattle.std.specs.Prelude.{fold, insert, map}
use Rattle.vr_model.specs.tables.Numbers.{below}
use Rattle.vr_first_insert.specs.VehicleLists.{visit_before, weigh_in}
use Rattle.vr_first_insert.proofs.one_list.best_of_places.Given as goal

-- the best beside the places so far, of which the last one is written
abbrev pub invariant-loop-t : goal.invariant-loop-t
invariant-loop-t l = record {
  best : l.best ≡ fold (weigh_in l.visit.list) l.fn.best (map (visit_before l.visit) (below (l.t + 1)));
  longer : l.trying.longer ≡ insert l.visit.list.nodes.now l.t l.visit.node;
}
