use Rattle.std.proofs.Common.{ℕ, ◌<◌, ◌≤◌}
use Rattle.std.specs.Prelude.{slice_index}
use Rattle.vr_moves_active.proofs.swap_active_moves.end_within.Given as goal

abbrev pub invariant-loop-k : goal.invariant-loop-k
invariant-loop-k l = (j : ℕ) → l.from ≤ j → j < l.k → (l.lowest ≤ slice_index l.nodes j) × (slice_index l.nodes j < l.first)
