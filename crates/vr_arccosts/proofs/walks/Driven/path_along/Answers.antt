use Rattle.std.proofs.Common.{◌≡◌, ◌∙◌, ◌<◌, ◌+◌, ◌*◌, ◌++◌, ℕ, List, false, take, ap, sym, subst, arith}
use Rattle.std.proofs.lemmas.Int.{ints}
use Rattle.std.proofs.lemmas.List.{take_all}
use Rattle.std.specs.Prelude.{slice_index_or, All}
use Rattle.vr_model.specs.tables.Tables.{arc_cost}
use Rattle.vr_routes.specs.declared.pieces.Piece.{Piece}
use Rattle.vr_routes.specs.declared.pieces.Piece.TheVariants.{Chain}
use Rattle.vr_routes.specs.Pieces.{joined, nodes_of}
use Rattle.vr_balance.specs.Sums.{path_sum, last_of, IsUpTo}
use Rattle.vr_balance.proofs.Paths.{path-append, last-append}
use Rattle.vr_routes.proofs.JoinedPieces.{joined_next, all_so_far, all_at}
use Rattle.vr_arccosts.proofs.ChainLemmas.{last-below}
use Rattle.vr_arccosts.proofs.walks.Driven.path_along.Goals as goal

abbrev first_piece : Piece
first_piece = Chain 0 0 0 false

pub along-path-requires-clause-nodes : goal.along-path-requires-clause-nodes
along-path-requires-clause-nodes c = all_at (λ node. node < c.args.self.now.costs.now.model.now.nodes)
    c.args.self.now.routes.now.lists c.args.pieces.now c.loop-k.k first_piece c.loop-k-test.true c.requires.nodes

pub along-path-requires-clause-at : goal.along-path-requires-clause-at
along-path-requires-clause-at c =
    let Below : ℕ → Type 0 = λ node. node < c.args.self.now.costs.now.model.now.nodes in
    let nodes : List ℕ = joined c.args.self.now.routes.now.lists (take c.loop-k.k c.args.pieces.now) in
    let all : All Below nodes = all_so_far Below c.args.self.now.routes.now.lists c.args.pieces.now c.loop-k.k c.requires.nodes in
    subst Below (sym c.loop-k.invariant.at) (last-below Below c.args.at nodes c.requires.at all)

pub along-path-requires-clause-cost : goal.along-path-requires-clause-cost
along-path-requires-clause-cost c =
    let r = c.loop-k.invariant.range in
    let k = c.loop-k.auto.k-end in
    let few = c.requires.few in
    record { low = r.low; high = omega (arith, ints, r.high, k, few) }

pub loop-k-preserved : goal.loop-k-preserved
loop-k-preserved c =
    let lists : List (List ℕ) = c.args.self.now.routes.now.lists in
    let pieces = c.args.pieces.now in
    let k = c.loop-k.k in
    let cost = arc_cost c.args.self.now.costs.now.model.now c.args.self.now.costs.now.vehicle in
    let start = c.args.at in
    let before : List ℕ = joined lists (take k pieces) in
    let piece : List ℕ = nodes_of lists (slice_index_or pieces k first_piece) in
    let next : joined lists (take (k + 1) pieces) ≡ before ++ piece = joined_next lists pieces k first_piece c.loop-k-test.true in
    let i = c.loop-k.invariant in
    let w = c.along-path.ensures in
    let cost_next = path-append cost start before piece in
    let cost_same = ap (path_sum cost start) next in
    let cost_piece = ap (λ n. path_sum cost n piece) i.at in
    let more : 1001 * k + 1001 ≡ 1001 * (k + 1) = omega arith in
    record {
      at = w.at ∙ ap (λ n. last_of n piece) i.at ∙ sym (last-append start before piece) ∙ ap (last_of start) (sym next);
      cost = omega (arith, ints, w.cost, i.cost, cost_next, cost_same, cost_piece);
      range = subst (λ n. IsUpTo n c.along-path.result.cost) more (w.range (1001 * k) i.range);
    }

pub returns-clause-at : goal.returns-clause-at
returns-clause-at c = c.loop-k.invariant.at
    ∙ ap (λ ps. last_of c.args.at (joined c.args.self.now.routes.now.lists ps)) (take_all c.loop-k.k c.args.pieces.now c.loop-k-test.false)

pub returns-clause-cost : goal.returns-clause-cost
returns-clause-cost c = c.loop-k.invariant.cost ∙ ap
    (λ ps. path_sum (arc_cost c.args.self.now.costs.now.model.now c.args.self.now.costs.now.vehicle) c.args.at (joined c.args.self.now.routes.now.lists ps))
    (take_all c.loop-k.k c.args.pieces.now c.loop-k-test.false)

pub returns-clause-known : goal.returns-clause-known
returns-clause-known c =
    let Below : ℕ → Type 0 = λ node. node < c.args.self.now.costs.now.model.now.nodes in
    subst Below (sym (returns-clause-at c))
    (last-below Below c.args.at (joined c.args.self.now.routes.now.lists c.args.pieces.now) c.requires.at c.requires.nodes)

pub returns-clause-range : goal.returns-clause-range
returns-clause-range c =
    let r = c.loop-k.invariant.range in
    let k = c.loop-k.auto.k-end in
    let few = c.requires.few in
    record { low = r.low; high = omega (arith, ints, r.high, k, few) }
