use Rattle.std.proofs.Common.{◌≡◌, ◌<◌, ℕ, List, length, ap, subst, arith}
use Rattle.std.proofs.lemmas.Int.{ints}
use Rattle.std.specs.Prelude.{All}
use Rattle.vr_model.specs.tables.Tables.{arc_cost}
use Rattle.vr_model.specs.routes.Routes.{route}
use Rattle.vr_routes.specs.declared.pieces.Piece.TheVariants.{Chain}
use Rattle.vr_routes.specs.Pieces.{nodes_of, IsWithin}
use Rattle.vr_balance.specs.Sums.{path_sum}
use Rattle.vr_arccosts.proofs.ChainLemmas.{path-first}
use Rattle.vr_arccosts.proofs.PieceLemmas.{chain-length}
use Rattle.vr_arccosts.proofs.walks.Path.along.Goals as goal

pub through-requires-clause-first : goal.through-requires-clause-first
through-requires-clause-first c =
    let Below : ℕ → Type 0 = λ node. node < c.args.of.now.costs.now.model.now.nodes in
    subst (λ p. All Below (nodes_of c.args.of.now.routes.now.lists p)) c.in-Node.is c.requires.nodes 0 0 (omega arith)

pub returns-else-from-to-clause-cost : goal.returns-else-from-to-clause-cost
returns-else-from-to-clause-cost c =
    let lists : List (List ℕ) = c.args.of.now.routes.now.lists in
    let cost = arc_cost c.args.of.now.costs.now.model.now c.args.of.now.costs.now.vehicle in
    let at = c.args.self.at in
    let p = c.in-Chain in
    let w = subst (IsWithin lists) p.is c.requires.within in
    let nodes : List ℕ = nodes_of lists (Chain p.vehicle p.from p.to p.reversed) in
    let order : p.from < p.to = (let f = c.if-from-to.false in let m = w.1 in omega (arith, f, m)) in
    let many = chain-length (route lists p.vehicle) p.from p.to order w.2 p.reversed in
    let some : 0 < length nodes = omega (arith, order, many) in
    let first = path-first cost at nodes some in
    let same : path_sum cost at (nodes_of lists c.args.piece) ≡ path_sum cost at nodes = ap (λ q. path_sum cost at (nodes_of lists q)) p.is in
    let a = c.through-in-Chain.ensures.cost in
    let f = ap (cost at) c.ends_of-first.ensures.first in
    let g = c.chain_cost-inner.ensures.value in
    omega (arith, ints, first, same, a, f, g)
