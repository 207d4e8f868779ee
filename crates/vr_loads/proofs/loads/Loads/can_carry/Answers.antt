use Rattle.std.proofs.Common.{◌∙◌, ◌<◌, ℕ, List, false, sym, ap, arith, to_z, w64}
use Rattle.std.specs.Prelude.{◌==◌}
use Rattle.std.proofs.lemmas.Int.{ints}
use Rattle.std.proofs.lemmas.List.{take_all}
use Rattle.vr_model.specs.tables.Numbers.{total_by}
use Rattle.vr_routes.specs.declared.pieces.Piece.{Piece}
use Rattle.vr_routes.specs.declared.pieces.Piece.TheVariants.{Chain}
use Rattle.vr_routes.specs.Pieces.{joined}
use Rattle.vr_loads.specs.Loads.{value_of}
use Rattle.vr_loads.proofs.KeptLemmas.{kept-both, carries, carries-nothing}
use Rattle.vr_routes.proofs.JoinedPieces.{all_at, empty_by_length}
use Rattle.vr_loads.proofs.PieceLemmas.{piece-read, piece-up}
use Rattle.vr_loads.proofs.loads.Loads.can_carry.Goals as goal

abbrev first_piece : Piece
first_piece = Chain 0 0 0 false

pub along-sum-requires-clause-nodes : goal.along-sum-requires-clause-nodes
along-sum-requires-clause-nodes c =
    all_at (λ node. node < c.args.model.now.nodes) c.args.routes.now.lists c.args.pieces.now c.loop-k.k first_piece c.loop-k-test.true c.requires.nodes

pub loop-k-preserved : goal.loop-k-preserved
loop-k-preserved c =
    let f = value_of c.args.model.now c.args.d c.index.result.now.evaluator in
    let lists : List (List ℕ) = c.args.routes.now.lists in
    let i = c.loop-k.invariant in
    let a = c.along-sum.ensures in
    record {
      sum = piece-read f lists c.args.pieces.now c.loop-k.k first_piece c.loop-k-test.true
          c.requires.few (to_z w64 c.loop-k.sum-bits) c.along-sum.result i.sum i.range a.value a.range;
      range = piece-up f lists c.args.pieces.now c.loop-k.k first_piece c.loop-k-test.true
          c.requires.few (to_z w64 c.loop-k.sum-bits) c.along-sum.result i.sum i.range a.value a.range;
    }

pub returns-then-sum-index : goal.returns-then-sum-index
returns-then-sum-index c =
    let list : List ℕ = joined c.args.routes.now.lists c.args.pieces.now in
    let kept = kept-both c.args.model.now c.args.d c.args.routes.now.lists c.args.self.now c.self.inside.vehicles.items c.args.v
    c.index.result.now c.index-2.result.now c.requires.carried c.requires.vehicle c.self.view_is c.index.ensures c.index-2.ensures in
    sym (carries c.args.model.now c.args.d c.args.v list c.index.result.now.evaluator (to_z w64 c.loop-k.sum-bits) c.index-2.result.now.room kept.0 kept.1
    (c.loop-k.invariant.sum ∙ ap (λ l. total_by (value_of c.args.model.now c.args.d c.index.result.now.evaluator) (joined c.args.routes.now.lists l))
    (take_all c.loop-k.k c.args.pieces.now c.loop-k-test.false))
    (let t = c.if-sum-index.true in omega (arith, ints, t)))

pub returns : goal.returns
returns c =
    let list : List ℕ = joined c.args.routes.now.lists c.args.pieces.now in
    let kept = kept-both c.args.model.now c.args.d c.args.routes.now.lists c.args.self.now c.self.inside.vehicles.items c.args.v
    c.index.result.now c.index-2.result.now c.requires.carried c.requires.vehicle c.self.view_is c.index.ensures c.index-2.ensures in
    ap (λ n. n == 0) (c.nodes_in.ensures c.args.routes.now.lists c.requires.within) ∙ empty_by_length list
    ∙ sym (carries-nothing c.args.model.now c.args.d c.args.v list c.index.result.now.evaluator
    (to_z w64 c.loop-k.sum-bits) c.index-2.result.now.room kept.0 kept.1
    (c.loop-k.invariant.sum ∙ ap (λ l. total_by (value_of c.args.model.now c.args.d c.index.result.now.evaluator) (joined c.args.routes.now.lists l))
    (take_all c.loop-k.k c.args.pieces.now c.loop-k-test.false))
    (let t = c.if-sum-index.false in omega (arith, ints, t)))
