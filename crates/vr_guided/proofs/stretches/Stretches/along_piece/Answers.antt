use Rattle.std.proofs.Common.{◌≡◌, ◌∙◌, ◌-◌, ◌<◌, ◌≤◌, ℕ, Bool, true, false, List, length, drop, reverse, ap, sym, subst, arith}
use Rattle.std.proofs.lemmas.List.{length-drop, length-reverse, length-take-le}
use Rattle.vr_model.specs.routes.Routes.{route}
use Rattle.std.specs.Prelude.{All, slice_range}
use Rattle.vr_routes.specs.Pieces.{IsWithin, nodes_of}
use Rattle.vr_routes.specs.declared.pieces.Piece.TheVariants.{Chain}
use Rattle.vr_guided.proofs.WalkLemmas.{all_unreversed}
use Rattle.vr_guided.proofs.stretches.Stretches.along_piece.Goals.{In-Chain}
use Rattle.vr_guided.proofs.stretches.Stretches.along_piece.Goals as goal

-- how many nodes a chain has
chain-forward : (lists : List (List ℕ)) (v from to : ℕ) → from ≤ to → to ≤ length (route lists v) → length (slice_range (route lists v) from to) ≡ to - from
chain-forward lists v from to order high =
    length-take-le (to - from) (drop from (route lists v)) (let n = length-drop from (route lists v) in omega (arith, n, order, high))

chain-nodes : (lists : List (List ℕ)) (v from to : ℕ) (reversed : Bool) → from ≤ to
    → to ≤ length (route lists v) → length (nodes_of lists (Chain v from to reversed)) ≡ to - from
chain-nodes lists v from to true order high = length-reverse (slice_range (route lists v) from to) ∙ chain-forward lists v from to order high
chain-nodes lists v from to false order high = chain-forward lists v from to order high

-- a chain lies within the list of its vehicle, which the model has
within : (c : In-Chain) → IsWithin c.args.self.now.routes.now.lists (Chain c.in-Chain.v c.in-Chain.from c.in-Chain.to c.in-Chain.reversed)
within c = subst (IsWithin c.args.self.now.routes.now.lists) c.in-Chain.is c.requires.within

owner : (c : In-Chain) → c.in-Chain.v < length c.args.self.now.arcs.weights.closed.model.now.vehicles
owner c = let low = (within c).0 in let known = c.args.self.now.sums.known in omega (arith, low, known)

pub has_costs_of-same-requires : goal.has_costs_of-same-requires
has_costs_of-same-requires c = owner (goal.at.has_costs_of-same-requires c).In-Chain

pub along_kept-requires-clause-owner : goal.along_kept-requires-clause-owner
along_kept-requires-clause-owner c = owner (goal.at.along_kept-requires-clause-owner c).In-Chain

pub along_kept-requires-clause-place : goal.along_kept-requires-clause-place
along_kept-requires-clause-place c = (within (goal.at.along_kept-requires-clause-place c).In-Chain).2

pub along_kept-requires-clause-room : goal.along_kept-requires-clause-room
along_kept-requires-clause-room c =
    let x = c.in-Chain in
    let w = within (goal.at.along_kept-requires-clause-room c).In-Chain in
    let len = ap (λ q. length (nodes_of c.args.self.now.routes.now.lists q)) x.is
    ∙ chain-nodes c.args.self.now.routes.now.lists x.v x.from x.to x.reversed w.1 w.2 in
    let room = c.requires.room in
    omega (arith, len, room)

pub along_back-requires-clause-nodes : goal.along_back-requires-clause-nodes
along_back-requires-clause-nodes c =
    let x = c.in-Chain in
    let lists = c.args.self.now.routes.now.lists in
    let here : nodes_of lists c.args.piece.now ≡ reverse (slice_range c.list.result.now x.from x.to) =
    ap (nodes_of lists) (x.is ∙ ap (λ b. Chain x.v x.from x.to b) c.if-reversed.true)
    ∙ ap (λ xs. reverse (slice_range xs x.from x.to)) (sym c.list.ensures.value) in
    all_unreversed (λ node. node < c.args.self.now.arcs.weights.closed.model.now.nodes) (slice_range c.list.result.now x.from x.to)
    (subst (λ xs. All (λ node. node < c.args.self.now.arcs.weights.closed.model.now.nodes) xs) here c.requires.nodes)
