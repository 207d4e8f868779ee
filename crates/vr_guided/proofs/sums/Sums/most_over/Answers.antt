use Rattle.std.proofs.Common.{◌∙◌, ◌≡◌, to_z, of_z, arith}
use Rattle.std.specs.Int.{w128}
use Rattle.std.proofs.lemmas.Int.{ints, clamps}
use Rattle.vr_guided.proofs.SumLemmas.{most-begun, most-more}
use Rattle.vr_guided.proofs.sums.Sums.most_over.Goals as goal

pub loop-k-init : goal.loop-k-init
loop-k-init c = most-begun c.args.self.now c.args.arcs

pub loop-k-preserved : goal.loop-k-preserved
loop-k-preserved c =
    let o = c.apart.ensures in
    let m = c.loop-k.invariant in
    let same : to_z w128 (of_z w128 c.apart.result) ≡ c.apart.result = omega (arith, ints, o.low, o.high) in
    most-more c.args.self.now c.args.arcs c.loop-k.k _ (to_z w128 (of_z w128 c.apart.result))
    (to_z w128 (of_z w128 c.greater-most.result)) m (same ∙ o.value) (omega (arith, ints, same, o.high))
    (omega (arith, ints, clamps, c.greater-most.ensures, m.low, m.high, same, o.low, o.high))

pub returns-clause-range : goal.returns-clause-range
returns-clause-range c = record { at_least = c.loop-k.invariant.low; at_most = c.loop-k.invariant.high }

pub returns-clause-most : goal.returns-clause-most
returns-clause-most c = λ k low. c.loop-k.invariant.all k (let many = c.requires.stops in omega (arith, many, low))
