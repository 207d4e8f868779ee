use Rattle.vr_span.specs.Pieces.{ArePieces}
use Rattle.vr_span.specs.Starts.{AreReachedPiecesAt}
use Rattle.vr_span.proofs.crossing.pieces_at_end.Given as goal

abbrev pub invariant-loop-k : goal.invariant-loop-k
invariant-loop-k l = record {
  pieces : ArePieces l.here;
  told : AreReachedPiecesAt l.line l.k l.here;
}
