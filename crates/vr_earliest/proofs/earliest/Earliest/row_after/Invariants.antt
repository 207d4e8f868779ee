use Rattle.std.proofs.Common.{◌≡◌, ◌<◌, ℕ, length}
use Rattle.std.specs.Prelude.{slice_index_or}
use Rattle.vr_routes.specs.Pieces.{part_at}
use Rattle.vr_earliest.specs.Earlies.{no_early, IsEarlyPart}
use Rattle.vr_earliest.proofs.earliest.Earliest.row_after.Given as goal

-- the parts so far are told
abbrev pub invariant-loop-k : goal.invariant-loop-k
invariant-loop-k l = record {
  many : length l.row ≡ 2;
  each : (k : ℕ) → k < l.k → IsEarlyPart l.self.model l.routes.lists l.d (part_at l.change k) (slice_index_or l.row k no_early);
}
