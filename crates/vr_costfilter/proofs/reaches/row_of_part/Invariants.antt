use Rattle.std.proofs.Common.{◌≡◌, ◌<◌, ℕ, length, None}
use Rattle.std.specs.Prelude.{slice_index_or}
use Rattle.vr_routes.specs.Pieces.{joined, part_at}
use Rattle.vr_costfilter.specs.GlobalCosts.{IsTimedIfPaid}
use Rattle.vr_costfilter.proofs.reaches.row_of_part.Given as goal

-- the dimensions so far are told
abbrev pub invariant-loop-d : goal.invariant-loop-d
invariant-loop-d l = record {
  many : length l.timings ≡ 4;
  each : (d : ℕ) → d < l.d → IsTimedIfPaid l.part.model.now d (part_at l.part.change.now l.part.k).vehicle
      (joined l.part.routes.now.lists (part_at l.part.change.now l.part.k).pieces) (slice_index_or l.timings d None);
}
