use Rattle.std.proofs.Common.{◌≡◌, ◌∙◌, ◌<◌, ◌+◌, ◌-◌, ◌++◌, ℕ, List, [], ◌∷◌, drop, length, take, refl, ap, sym, subst, arith}
use Rattle.std.specs.Prelude.{IsTrue, slice_index_or}
use Rattle.std.specs.Option.{option_and_then}
use Rattle.std.proofs.lemmas.List.{drop_all, length-drop, take-append-drop}
use Rattle.vr_model.specs.tables.Tables.{is_visit}
use Rattle.vr_costfilter.specs.Floors.{before, WentBack}
use Rattle.vr_costfilter.specs.GuideRuns.{runs_of}
use Rattle.vr_costfilter.specs.FewVisits.{in_order}
use Rattle.vr_earliest.proofs.WayLemmas.{ordered-long}
use Rattle.vr_costfilter.specs.declared.with_guide.ChainWithGuide.{ChainWithGuide}
use Rattle.vr_costfilter.proofs.FloorLemmas.{back-many, back-more, back-none, drop-one}
use Rattle.vr_costfilter.proofs.FirstLemmas.{begin-none, went-begin}
use Rattle.vr_costfilter.proofs.with_guide.ChainWithGuide.back_along.Goals as goal

-- the nodes in their order, and how many there are
abbrev nodes-of : (chain : ChainWithGuide) → List ℕ
nodes-of chain = in_order chain.reversed chain.nodes.now

long : (chain : ChainWithGuide) → length (nodes-of chain) ≡ length chain.nodes.now
long chain = ordered-long chain.reversed chain.nodes.now

-- the node that is read comes before those that were walked along
comes-next : (chain : ChainWithGuide) (k : ℕ) → k < length chain.nodes.now → (node : ℕ)
    → node ≡ slice_index_or (nodes-of chain) (length chain.nodes.now - 1 - k) 0
    → drop (length chain.nodes.now - (k + 1)) (nodes-of chain) ≡ node ∷ drop (length chain.nodes.now - k) (nodes-of chain)
comes-next chain k low node is = drop-one (nodes-of chain) (length chain.nodes.now) k 0 (long chain) low
    ∙ ap (λ x. x ∷ drop (length chain.nodes.now - k) (nodes-of chain)) (sym is)

pub loop-k-init : goal.loop-k-init
loop-k-init c =
    let g = c.args.self.now.guide.now in
    let nodes : List ℕ = nodes-of c.args.self.now in
    record {
      back = subst (λ l. WentBack g.model.now g.d g.v (runs_of g) l c.args.next c.args.trail.now.steps.items c.args.trail.now.steps.items c.args.next)
          (sym (drop_all (length c.args.self.now.nodes.now - 0) nodes (omega (arith, long c.args.self.now))))
          (back-none g.model.now g.d g.v (runs_of g) c.args.next c.args.trail.now.steps.items);
      range = c.requires.step;
    }

pub step_back-requires-clause-node : goal.step_back-requires-clause-node
step_back-requires-clause-node c =
    subst (λ node. IsTrue (is_visit c.args.self.now.guide.now.model.now node)) (sym c.node_in-node.ensures)
    (c.args.self.now.sound.visits (length c.args.self.now.nodes.now - 1 - c.loop-k.k) 0 (omega (arith, long c.args.self.now, c.loop-k-test.true)))

pub step_back-requires-clause-room : goal.step_back-requires-clause-room
step_back-requires-clause-room c =
    let g = c.args.self.now.guide.now in
    let nodes : List ℕ = nodes-of c.args.self.now in
    let rest : List ℕ = drop (length c.args.self.now.nodes.now - c.loop-k.k) nodes in
    let many = back-many g.model.now g.d g.v (runs_of g) rest c.args.next c.loop-k.first
    c.args.trail.now.steps.items c.loop-k.trail.steps.items c.loop-k.invariant.back in
    let left = length-drop (length c.args.self.now.nodes.now - c.loop-k.k) nodes in
    omega (arith, long c.args.self.now, c.loop-k-test.true, c.requires.room, many, left)

pub loop-k-preserved : goal.loop-k-preserved
loop-k-preserved c =
    let g = c.args.self.now.guide.now in
    let n = length c.args.self.now.nodes.now in
    let nodes : List ℕ = nodes-of c.args.self.now in
    let node = c.node_in-node.result in
    let e = c.in-Some.ensures in
    record {
      back = back-more g.model.now g.d g.v (runs_of g) (node ∷ []) (drop (n - c.loop-k.k) nodes) (drop (n - (c.loop-k.k + 1)) nodes)
          c.args.next c.loop-k.first c.in-Some.step c.args.trail.now.steps.items c.loop-k.trail.steps.items c.step_back.new.trail.steps.items
          (comes-next c.args.self.now c.loop-k.k c.loop-k-test.true c.node_in-node.result c.node_in-node.ensures) c.loop-k.invariant.back
          (e.back (node ∷ []) refl);
      range = e.range;
    }

pub returns : goal.returns
returns c =
    let g = c.args.self.now.guide.now in
    let nodes : List ℕ = nodes-of c.args.self.now in
    let all : length c.args.self.now.nodes.now - c.loop-k.k ≡ 0 = omega (arith, c.loop-k-test.false) in
    let back =
    subst (λ i. WentBack g.model.now g.d g.v (runs_of g) (drop i nodes) c.args.next c.args.trail.now.steps.items c.loop-k.trail.steps.items c.loop-k.first)
    all c.loop-k.invariant.back in
    record {
      value =
          sym (went-begin g.model.now g.d g.v (runs_of g) nodes c.args.next c.loop-k.first c.args.trail.now.steps.items c.loop-k.trail.steps.items back);
      back = back;
      range = c.loop-k.invariant.range;
    }

pub returns-in-None : goal.returns-in-None
returns-in-None c =
    let g = c.args.self.now.guide.now in
    let place = length c.args.self.now.nodes.now - (c.loop-k.k + 1) in
    let nodes : List ℕ = nodes-of c.args.self.now in
    let rest : List ℕ = drop (length c.args.self.now.nodes.now - c.loop-k.k) nodes in
    let ahead : List ℕ = take place nodes in
    let split : nodes ≡ ahead ++ (c.node_in-node.result ∷ rest) = sym (take-append-drop place nodes)
    ∙ ap (λ l. ahead ++ l) (comes-next c.args.self.now c.loop-k.k c.loop-k-test.true c.node_in-node.result c.node_in-node.ensures) in
    let there = went-begin g.model.now g.d g.v (runs_of g) rest c.args.next c.loop-k.first
    c.args.trail.now.steps.items c.loop-k.trail.steps.items c.loop-k.invariant.back in
    let none = sym (begin-none g.model.now g.d g.v (runs_of g) nodes ahead (c.node_in-node.result ∷ rest) c.args.next split
    (ap (option_and_then (before g.model.now g.d g.v (runs_of g) c.node_in-node.result)) there ∙ sym c.in-None.ensures.value)) in
    record { value = none; back = tt; range = tt }
