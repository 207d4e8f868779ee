use Rattle.std.proofs.Common.{◌≡◌}
use Rattle.vr_first_insert.specs.Increases.{visit_increase}
use Rattle.vr_first_insert.proofs.FirstPlace.{IsLeastOf}
use Rattle.vr_first_insert.proofs.bound.least_place.Given as goal

-- the first least of the places so far
abbrev pub invariant-loop-t : goal.invariant-loop-t
invariant-loop-t l = record {
  is : l.at.least ≡ visit_increase l.list.lookups.now.closed.model.now l.list.vehicle l.list.nodes.now l.node l.at.place;
  first : IsLeastOf (visit_increase l.list.lookups.now.closed.model.now l.list.vehicle l.list.nodes.now l.node) l.t l.at.place;
}
