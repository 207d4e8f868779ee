use Rattle.std.proofs.Common.{arith}
use Rattle.std.proofs.lemmas.Int.{ints}
use Rattle.vr_plan.proofs.BoundLemmas.{mul-around, mul-sign, read-around}
use Rattle.vr_plan.proofs.timings.times.Goals as goal

pub overflow_mul-result : goal.overflow_mul-result
overflow_mul-result c =
    let m = mul-around c.args.coefficient c.args.x 68719476736 c.requires.coefficient.at_least c.requires.coefficient.at_most c.requires.range in
    rw (
      read-around c.args.coefficient 10000
          (record { low = (let l = c.requires.coefficient.at_least in omega (arith, ints, l)); high = c.requires.coefficient.at_most }) (omega arith),
      read-around c.args.x 68719476736 c.requires.range (omega arith),
    ) (omega (arith, ints, m.low, m.high))

pub returns-clause-sign : goal.returns-clause-sign
returns-clause-sign c above =
    let m = mul-around c.args.coefficient c.args.x 68719476736 c.requires.coefficient.at_least c.requires.coefficient.at_most c.requires.range in
    let g = mul-sign c.args.coefficient c.args.x c.requires.coefficient.at_least above in
    rw (
      read-around c.args.coefficient 10000
          (record { low = (let l = c.requires.coefficient.at_least in omega (arith, ints, l)); high = c.requires.coefficient.at_most }) (omega arith),
      read-around c.args.x 68719476736 c.requires.range (omega arith),
    ) (omega (arith, ints, m.low, m.high, g))
