use Rattle.std.proofs.Common.{◌≡◌, ◌<◌, ℕ, [], length}
use Rattle.std.specs.Prelude.{slice_index_or}
use Rattle.vr_reach.specs.VisitSets.{capacity_of, IsSetOfNode}
use Rattle.vr_reach.proofs.visits.visit_sets.Given as goal

-- the sets of the nodes so far
abbrev pub invariant-loop-node : goal.invariant-loop-node
invariant-loop-node l = record {
  long : length l.sets ≡ l.node;
  each : (k : ℕ) → k < l.node
      → IsSetOfNode l.vehicle.closed.model.now l.vehicle.d (capacity_of l.vehicle.closed.model.now l.vehicle.d l.vehicle.v) k (slice_index_or l.sets k []);
}
