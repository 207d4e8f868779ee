use Rattle.std.proofs.Common.{◌≡◌, ℕ, ℤ, ◌<◌, length}
use Rattle.std.specs.Prelude.{slice_index_or}
use Rattle.vr_ruin.specs.Arcs.{IsArcAt}
use Rattle.vr_ruin.proofs.places.write_arcs.Given as goal

-- the arcs so far
abbrev pub invariant-loop-t : goal.invariant-loop-t
invariant-loop-t l = record {
  long : length l.arcs ≡ l.t;
  each : (t : ℕ) (other : ℤ) → t < length l.arcs → IsArcAt l.list.closed.model.now l.list.vehicle l.list.nodes.now t (slice_index_or l.arcs t other);
}
