use Rattle.std.proofs.Common.{◌≡◌, ◌<◌, ℕ, List, length}
use Rattle.vr_model.specs.moves.Moves.{with_route}
use Rattle.vr_earliest.proofs.WritingLemmas.{AreWrittenTo}
use Rattle.vr_earliest.specs.Kept.{HaveAllWays, HaveWays}
use Rattle.vr_earliest.specs.Kept.{KeptWays}
use Rattle.vr_earliest.proofs.earliest.write_list.Given as goal

abbrev pub invariant-loop-d : goal.invariant-loop-d
invariant-loop-d l = record {
  many : length l.kept ≡ length l.closed.model.now.dimensions;
  written : (lists : List (List ℕ)) → HaveAllWays l.closed.model.now lists l.fn.kept → l.v < length lists
      → AreWrittenTo (λ d (ones : List KeptWays). HaveWays l.closed.model.now d (with_route lists l.v l.list) ones)
      (λ d (ones : List KeptWays). HaveWays l.closed.model.now d lists ones) l.d l.kept;
}
