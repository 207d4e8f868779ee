use Rattle.std.proofs.Common.{◌≡◌, ℕ, ◌<◌, List, length}
use Rattle.std.specs.Prelude.{IsTrue, slice_index_or}
use Rattle.vr_spans.specs.declared.runs.Run.{Run}
use Rattle.vr_model.specs.tables.Tables.{is_visit}
use Rattle.vr_steps.specs.declared.stops.StopName.TheVariants.{Visit}
use Rattle.vr_rules.specs.Fronts.{IsStopSet}
use Rattle.vr_rules.proofs.fronts.visit_sets.Given as goal

-- the sets of the nodes so far
abbrev pub invariant-loop-node : goal.invariant-loop-node
invariant-loop-node l = record {
  long : length l.sets.items ≡ l.node;
  each : (node : ℕ) (other : List Run) → node < length l.sets.items → IsTrue (is_visit l.of.closed.model.now node)
      → IsStopSet l.of.closed.model.now l.of.d l.of.v (Visit node) (slice_index_or l.sets.items node other);
}
