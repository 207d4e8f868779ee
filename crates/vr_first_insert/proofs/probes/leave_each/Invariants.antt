use Rattle.std.proofs.Common.{◌≡◌, ℕ, ◌+◌, ◌<◌, List, length}
use Rattle.std.specs.Prelude.{slice_index_or}
use Rattle.vr_spans.specs.declared.runs.Run.{Run}
use Rattle.vr_reach.specs.Standing.{IsReachedAt}
use Rattle.vr_first_insert.proofs.probes.leave_each.Given as goal

-- what is reached in the dimensions so far
abbrev pub invariant-loop-d : goal.invariant-loop-d
invariant-loop-d l = record {
  long : length l.probes.here.items ≡ length l.initial.probes.here.items;
  done : (d : ℕ) (other : List (List Run)) → d < l.d → d < length l.probes.here.items
      → IsReachedAt l.old.lookups.now.closed.model.now d l.old.vehicle l.new (l.front + 1) (slice_index_or l.probes.here.items d other);
}
