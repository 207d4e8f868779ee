use Rattle.std.proofs.Common.{◌≡◌, ◌≤◌, ◌*◌, ℕ, List, length, take, All}
use Rattle.vr_routes.specs.Pieces.{IsWithin, joined}
use Rattle.vr_routes.proofs.pieces.Piece.nodes_in.Given as goal

abbrev pub invariant-loop-piece : goal.invariant-loop-piece
invariant-loop-piece l = record {
  nodes : (lists : List (List ℕ)) → All (IsWithin lists) l.pieces → l.nodes ≡ length (joined lists (take l.piece-index l.pieces));
  few : l.nodes ≤ 4294967296 * l.piece-index;
}
