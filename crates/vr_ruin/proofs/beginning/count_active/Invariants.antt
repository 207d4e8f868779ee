use Rattle.std.proofs.Common.{◌≤◌, ℕ, length}
use Rattle.vr_strings.proofs.ListCounts.{AreCounts}
use Rattle.vr_ruin.proofs.beginning.count_active.Given as goal

-- the count of the lists so far, beside some count of used ones
abbrev pub invariant-loop-v : goal.invariant-loop-v
invariant-loop-v l = (used : ℕ) × AreCounts l.routes.lists l.v l.active used × (l.v ≤ length l.routes.lists)
