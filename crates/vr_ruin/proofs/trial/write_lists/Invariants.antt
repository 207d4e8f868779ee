use Rattle.std.proofs.Common.{◌≡◌, ℕ, List, ◌<◌, length}
use Rattle.std.specs.Prelude.{slice_index_or}
use Rattle.vr_model.specs.moves.Moves.{with_route}
use Rattle.vr_ruin.proofs.trial.write_lists.Given as goal

-- the lists so far
abbrev pub invariant-loop-w : goal.invariant-loop-w
invariant-loop-w l = record {
  long : length l.lists ≡ length l.initial.lists;
  done : (w : ℕ) (other : List ℕ) → w < l.w → w < length l.lists
      → slice_index_or l.lists w other ≡ slice_index_or (with_route l.routes.lists l.v l.list) w other;
}
