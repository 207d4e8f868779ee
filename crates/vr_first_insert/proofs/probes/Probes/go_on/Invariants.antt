use Rattle.std.proofs.Common.{◌≡◌, ℕ, ◌+◌, ◌<◌, ◌≤◌, List, length}
use Rattle.std.specs.Prelude.{slice_index_or}
use Rattle.vr_spans.specs.declared.runs.Run.{Run}
use Rattle.vr_reach.specs.Standing.{IsReachedAt}
use Rattle.vr_first_insert.proofs.probes.Probes.go_on.Given as goal

-- the dimensions so far stand at the next stop, the others not yet
abbrev pub invariant-loop-d : goal.invariant-loop-d
invariant-loop-d l = record {
  long : length l.self.here.items ≡ length l.initial.self.here.items;
  done : (d : ℕ) (other : List (List Run)) → d < l.d → d < length l.self.here.items
      → IsReachedAt l.lookups.closed.model.now d l.v l.list (l.k + 1) (slice_index_or l.self.here.items d other);
  left : (d : ℕ) (other : List (List Run)) → l.d ≤ d → d < length l.self.here.items → d < length l.lookups.closed.model.now.dimensions
      → IsReachedAt l.lookups.closed.model.now d l.v l.list l.k (slice_index_or l.self.here.items d other);
}
