use Rattle.std.proofs.Common.{arith, to_z, w64}
use Rattle.std.proofs.lemmas.Int.{ints}
use Rattle.vr_loads.specs.Loads.{value_of}
use Rattle.vr_loads.proofs.LoadLines.{small}
use Rattle.vr_loads.proofs.Totals.{so-far}
use Rattle.vr_loads.proofs.ValueLemmas.{next-read}
use Rattle.vr_loads.proofs.sums.sum_of.Goals as goal

pub overflow_add-sum : goal.overflow_add-sum
overflow_add-sum c =
    let f = value_of c.args.model.now c.args.d c.args.evaluator in
    let u = so-far f (small c.args.model.now c.args.d c.requires.load c.args.evaluator c.requires.evaluator) c.args.list.now c.requires.few c.loop-k.k in
    let b = c.value-sum.ensures.range in
    omega (arith, ints, u.low, u.high, b.low, b.high, c.loop-k.sum-is, c.loop-k.invariant)

pub loop-k-preserved : goal.loop-k-preserved
loop-k-preserved c =
    next-read (value_of c.args.model.now c.args.d c.args.evaluator) (small c.args.model.now c.args.d c.requires.load c.args.evaluator c.requires.evaluator)
    c.args.list.now c.requires.few c.loop-k.k c.loop-k-test.true (to_z w64 c.loop-k.sum-bits) c.value-sum.result c.loop-k.invariant c.value-sum.ensures.value
