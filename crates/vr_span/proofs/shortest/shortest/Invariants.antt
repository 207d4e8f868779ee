use Rattle.std.proofs.Common.{◌≡◌, ◌≤◌, drop, length}
use Rattle.vr_span.specs.Pieces.{shortest_of}
use Rattle.vr_span.proofs.shortest.shortest.Given as goal

abbrev pub invariant-pieces : goal.invariant-pieces
invariant-pieces l = record {
  most : l.k ≤ length l.pieces;
  best : l.best ≡ shortest_of (drop l.k l.pieces);
}

abbrev pub decreases-pieces : goal.decreases-pieces
decreases-pieces l = l.k
