use Rattle.std.proofs.Common.{◌≡◌, ◌<◌, ℕ, List, length}
use Rattle.std.specs.Prelude.{slice_index_or}
use Rattle.vr_model.specs.moves.Moves.{with_route}
use Rattle.vr_earliest.proofs.WritingLemmas.{AreWrittenTo}
use Rattle.vr_costfilter.specs.Kept.{AreAllKept, AreKept}
use Rattle.vr_costfilter.specs.declared.kept.KeptList.{KeptList}
use Rattle.vr_costfilter.proofs.all_cumuls.write_list.Given as goal

abbrev pub invariant-loop-d : goal.invariant-loop-d
invariant-loop-d l = record {
  many : length l.kept ≡ length l.tour.closed.model.now.dimensions;
  written : (lists : List (List ℕ)) → AreAllKept l.tour.closed.model.now lists l.fn.kept → l.tour.v < length lists
      → AreWrittenTo (λ d (ones : List KeptList). AreKept l.tour.closed.model.now d (with_route lists l.tour.v l.tour.list.now) ones)
      (λ d (ones : List KeptList). AreKept l.tour.closed.model.now d lists ones) l.d l.kept;
  as_many : (d : ℕ) (other : List KeptList) → d < length l.kept → length (slice_index_or l.kept d other) ≡ length (slice_index_or l.fn.kept d other);
}
