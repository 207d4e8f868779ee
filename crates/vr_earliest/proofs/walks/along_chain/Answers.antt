use Rattle.std.proofs.Common.{◌≡◌, ◌∙◌, ◌+◌, ℕ, List, cond, length, reverse, ap₂, sym, subst, arith}
use Rattle.std.proofs.lemmas.List.Sums.{fold_more}
use Rattle.vr_earliest.proofs.WayLemmas.{ordered-long}
use Rattle.vr_earliest.proofs.walks.along_chain.Goals as goal

pub way_to_visit-gone-requires-clause-node : goal.way_to_visit-gone-requires-clause-node
way_to_visit-gone-requires-clause-node g c =
    let long = ordered-long c.args.reversed c.args.chain.now in
    subst (g.G.Walk.can_visit c.args.walk.now) (sym c.node_in.ensures) (c.requires.nodes c.loop-k.k 0 (omega (arith, long, c.loop-k-test.true)))

pub way_to_visit-gone-requires-clause-way : goal.way_to_visit-gone-requires-clause-way
way_to_visit-gone-requires-clause-way g c =
    g.met.G.Walk.way_grows c.args.walk.now (9000 + c.loop-k.k) 10000 c.loop-k.gone
    (omega (arith, c.requires.few, c.loop-k-test.true)) (c.loop-k.invariant.range 9000 c.requires.way)

pub loop-k-preserved : goal.loop-k-preserved
loop-k-preserved g c =
    let on = g.G.Walk.way_on c.args.walk.now in
    let nodes : List ℕ = cond c.args.reversed (reverse c.args.chain.now) c.args.chain.now in
    let k = c.loop-k.k in
    let i = c.loop-k.invariant in
    let e = c.way_to_visit-gone.ensures in
    let long = ordered-long c.args.reversed c.args.chain.now in
    record {
      value = e.value ∙ ap₂ (λ way node. on way node) i.value c.node_in.ensures
          ∙ sym (fold_more on c.args.way nodes k 0 (omega (arith, long, c.loop-k-test.true)));
      range = λ n is. e.range (n + k) (n + (k + 1)) (omega arith) (i.range n is);
    }

pub returns-clause-range : goal.returns-clause-range
returns-clause-range g c n is =
    let end : c.loop-k.k ≡ length c.args.chain.now = omega (arith, c.loop-k-test.false, c.loop-k.auto.k-end) in
    subst (λ k. g.G.Walk.is_way c.args.walk.now (n + k) c.loop-k.gone) end (c.loop-k.invariant.range n is)
