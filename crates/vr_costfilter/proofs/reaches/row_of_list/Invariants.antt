use Rattle.std.proofs.Common.{◌≡◌, ◌<◌, ℕ, length, None}
use Rattle.std.specs.Prelude.{slice_index_or}
use Rattle.vr_costfilter.specs.GlobalCosts.{IsTimedIfPaid}
use Rattle.vr_costfilter.proofs.reaches.row_of_list.Given as goal

-- the dimensions so far are told
abbrev pub invariant-loop-d : goal.invariant-loop-d
invariant-loop-d l = record {
  many : length l.row ≡ 4;
  each : (d : ℕ) → d < l.d → IsTimedIfPaid l.tour.closed.model.now d l.tour.v l.tour.list.now (slice_index_or l.row d None);
}
