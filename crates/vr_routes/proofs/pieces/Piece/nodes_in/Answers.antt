use Rattle.std.proofs.Common.{◌∙◌, false, ap, arith, length, take, take_all, length-append}
use Rattle.vr_routes.specs.Pieces.{joined}
use Rattle.vr_routes.specs.declared.pieces.Piece.TheVariants.{Chain}
use Rattle.vr_routes.proofs.JoinedPieces.{joined_next}
use Rattle.vr_routes.proofs.pieces.Piece.nodes_in.Goals as goal

pub loop-piece-preserved : goal.loop-piece-preserved
loop-piece-preserved c = record {
  nodes = λ lists within.
      let i = c.loop-piece.piece-index in
      let low = c.loop-piece-test.true in
      let other = Chain 0 0 0 false in
      let here = c.nodes-nodes.ensures.value lists (within i other low) in
      let before = c.loop-piece.invariant.nodes lists within in
      let next = ap (λ nodes. length nodes) (joined_next lists c.args.pieces.now i other low) ∙ length-append (joined lists (take i c.args.pieces.now)) _ in
      omega (arith, here, before, next);
  few = omega (arith, c.loop-piece.invariant.few, c.nodes-nodes.ensures.few);
}

pub returns : goal.returns
returns c lists within = c.loop-piece.invariant.nodes lists within
    ∙ ap (λ pieces. length (joined lists pieces)) (take_all c.loop-piece.piece-index c.args.pieces.now c.loop-piece-test.false)
