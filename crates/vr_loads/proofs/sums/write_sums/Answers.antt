use Rattle.vr_loads.specs.Kept.{at_target}
use Rattle.vr_loads.specs.Loads.{value_of}
use Rattle.vr_loads.proofs.LoadLines.{small}
use Rattle.vr_loads.proofs.ValueLemmas.{value-read}
use Rattle.vr_loads.proofs.sums.write_sums.Goals as goal

pub loop-k-preserved : goal.loop-k-preserved
loop-k-preserved c =
    let f = value_of c.args.model.now c.args.d c.args.evaluator in
    c.extend.ensures (at_target f) 0 c.args.list.now c.loop-k.k c.loop-k.invariant c.loop-k-test.true
    (value-read f (small c.args.model.now c.args.d c.requires.load c.args.evaluator c.requires.evaluator) c.value.result _ c.value.ensures.value)
