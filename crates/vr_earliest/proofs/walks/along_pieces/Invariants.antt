use Rattle.std.proofs.Common.{◌≡◌, ◌+◌, length, take}
use Rattle.std.specs.Prelude.{fold}
use Rattle.vr_routes.specs.Pieces.{joined}
use Rattle.vr_earliest.proofs.walks.along_pieces.Given as goal

abbrev pub invariant-loop-k : goal.invariant-loop-k
invariant-loop-k g l = record {
  value : l.gone ≡ fold (g.G.Walk.way_on l.walk) l.fn.way (joined l.routes.lists (take l.k l.pieces));
  range : g.G.Walk.is_way l.walk (1000 + length (joined l.routes.lists (take l.k l.pieces))) l.gone;
}
