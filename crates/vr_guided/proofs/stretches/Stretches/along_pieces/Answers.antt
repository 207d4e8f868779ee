use Rattle.std.proofs.Common.{◌≡◌, ◌∙◌, ◌+◌, ◌<◌, ◌++◌, List, ℕ, drop, length, slice_index_or, false, ap, sym, subst, arith}
use Rattle.std.specs.Prelude.{All}
use Rattle.std.proofs.lemmas.List.{length-append}
use Rattle.vr_routes.specs.Pieces.{joined, nodes_of}
use Rattle.vr_routes.specs.declared.pieces.Piece.TheVariants.{Chain}
use Rattle.vr_guided.specs.Counts.{counted}
use Rattle.vr_guided.specs.Walks.{walked}
use Rattle.vr_routes.proofs.JoinedPieces.{all_left, all_right}
use Rattle.vr_guided.proofs.WalkLemmas.{arcs_walked, pieces_onward, walked_more}
use Rattle.vr_guided.proofs.stretches.Stretches.along_pieces.Goals as goal

pub along_piece-requires-clause-nodes : goal.along_piece-requires-clause-nodes
along_piece-requires-clause-nodes c =
    let onward = pieces_onward c.args.self.now.routes.now.lists c.args.pieces.now c.loop-piece.piece-index (Chain 0 0 0 false) c.loop-piece-test.true in
    all_left (λ node. node < c.args.self.now.arcs.weights.closed.model.now.nodes) _
    (joined c.args.self.now.routes.now.lists (drop (c.loop-piece.piece-index + 1) c.args.pieces.now))
    (subst (λ xs. All (λ node. node < c.args.self.now.arcs.weights.closed.model.now.nodes) xs) onward c.loop-piece.invariant.nodes)

pub along_piece-requires-clause-room : goal.along_piece-requires-clause-room
along_piece-requires-clause-room c =
    let onward = pieces_onward c.args.self.now.routes.now.lists c.args.pieces.now c.loop-piece.piece-index (Chain 0 0 0 false) c.loop-piece-test.true in
    let sum = ap length onward ∙ length-append _ (joined c.args.self.now.routes.now.lists (drop (c.loop-piece.piece-index + 1) c.args.pieces.now)) in
    omega (arith, sum, c.loop-piece.invariant.room)

pub loop-piece-preserved : goal.loop-piece-preserved
loop-piece-preserved c =
    let m = c.args.self.now.arcs.weights.closed.model.now in
    let p = counted c.args.self.now.arcs.weights.penalties.now in
    let v = c.args.self.now.arcs.vehicle in
    let lists = c.args.self.now.routes.now.lists in
    let walk = c.loop-piece.walk in
    let inv = c.loop-piece.invariant in
    let here : List ℕ = nodes_of c.args.self.now.routes.now.lists (slice_index_or c.args.pieces.now c.loop-piece.piece-index (Chain 0 0 0 false)) in
    let rest : List ℕ = joined c.args.self.now.routes.now.lists (drop (c.loop-piece.piece-index + 1) c.args.pieces.now) in
    let onward : joined lists (drop c.loop-piece.piece-index c.args.pieces.now) ≡ here ++ rest = pieces_onward lists
    c.args.pieces.now c.loop-piece.piece-index (Chain 0 0 0 false) c.loop-piece-test.true in
    let arcs = ap (λ w. w.arcs) c.along_piece.ensures.value ∙ arcs_walked m p v walk here in
    let sum = ap length onward ∙ length-append here rest in
    record {
      goes = ap (λ w. walked m p v w rest) c.along_piece.ensures.value
          ∙ (sym (walked_more m p v walk here rest) ∙ (sym (ap (walked m p v walk) onward) ∙ inv.goes));
      sound = c.along_piece.ensures.sound;
      room = omega (arith, arcs, sum, inv.room);
      nodes = all_right (λ node. node < c.args.self.now.arcs.weights.closed.model.now.nodes) here rest
          (subst (λ xs. All (λ node. node < c.args.self.now.arcs.weights.closed.model.now.nodes) xs) onward inv.nodes);
    }
