use Rattle.std.proofs.Common.{◌≡◌, ◌≤◌, ◌∙◌, ◌+◌, ℕ, List, false, drop, length, length-append, take, ap, sym, subst, arith}
use Rattle.std.specs.Prelude.{fold, slice_index_or}
use Rattle.std.proofs.lemmas.List.Sums.{fold-append}
use Rattle.vr_routes.specs.declared.pieces.Piece.{Piece}
use Rattle.vr_routes.specs.declared.pieces.Piece.TheVariants.{Chain}
use Rattle.vr_routes.specs.Pieces.{joined, nodes_of}
use Rattle.vr_routes.proofs.JoinedPieces.{all_at, joined_next, joined_rest}
use Rattle.vr_earliest.proofs.walks.along_pieces.Goals as goal

abbrev first_piece : Piece
first_piece = Chain 0 0 0 false

-- the nodes of the first pieces are no more than all
front-few : (lists : List (List ℕ)) (pieces : List Piece) (k : ℕ) → length (joined lists pieces) ≤ 8000 → length (joined lists (take k pieces)) ≤ 8000
front-few lists pieces k few =
    let all = ap length (joined_rest lists pieces k) in
    let two = length-append (joined lists (take k pieces)) (joined lists (drop k pieces)) in
    omega (arith, all, two, few)

pub along_piece-gone-requires-clause-nodes : goal.along_piece-gone-requires-clause-nodes
along_piece-gone-requires-clause-nodes g c =
    all_at (g.G.Walk.can_visit c.args.walk.now) c.args.routes.now.lists c.args.pieces.now c.loop-k.k first_piece c.loop-k-test.true c.requires.nodes

pub along_piece-gone-requires-clause-way : goal.along_piece-gone-requires-clause-way
along_piece-gone-requires-clause-way g c =
    let few = front-few c.args.routes.now.lists c.args.pieces.now c.loop-k.k c.requires.few in
    g.met.G.Walk.way_grows c.args.walk.now (1000 + length (joined c.args.routes.now.lists (take c.loop-k.k c.args.pieces.now)))
    9000 c.loop-k.gone (omega (arith, few)) c.loop-k.invariant.range

pub loop-k-preserved : goal.loop-k-preserved
loop-k-preserved g c =
    let k = c.loop-k.k in
    let on = g.G.Walk.way_on c.args.walk.now in
    let lists : List (List ℕ) = c.args.routes.now.lists in
    let piece = slice_index_or c.args.pieces.now k first_piece in
    let nodes : List ℕ = nodes_of lists piece in
    let front : List ℕ = joined lists (take k c.args.pieces.now) in
    let next = joined_next lists c.args.pieces.now k first_piece c.loop-k-test.true in
    let long : 1000 + length front + length nodes ≡ 1000 + length (joined lists (take (k + 1) c.args.pieces.now)) =
    (let two = length-append front nodes in let all = ap length next in omega (arith, two, all)) in
    record {
      value = c.along_piece-gone.ensures.value ∙ ap (λ way. fold on way nodes) c.loop-k.invariant.value
          ∙ sym (ap (fold on c.args.way) next ∙ fold-append on c.args.way front nodes);
      range = subst (λ n. g.G.Walk.is_way c.args.walk.now n c.along_piece-gone.result) long
          (c.along_piece-gone.ensures.range (1000 + length front) c.loop-k.invariant.range);
    }

pub returns-clause-range : goal.returns-clause-range
returns-clause-range g c =
    let few = front-few c.args.routes.now.lists c.args.pieces.now c.loop-k.k c.requires.few in
    g.met.G.Walk.way_grows c.args.walk.now (1000 + length (joined c.args.routes.now.lists (take c.loop-k.k c.args.pieces.now)))
    9000 c.loop-k.gone (omega (arith, few)) c.loop-k.invariant.range
