use Rattle.std.proofs.Common.{arith}
use Rattle.std.proofs.lemmas.Int.{ints}
use Rattle.vr_spans.proofs.Short.{five_short}
use Rattle.vr_line_tests.proofs.sets.ten_apart.Goals as goal

pub returns : goal.returns
returns c =
    let low = c.requires.least in
    let order = c.requires.in_order in
    let high = c.requires.greatest in
    five_short _ _ _ _ _
    (record {
      least = omega (arith, ints, low, order, high);
      in_order = omega (arith, ints, low, order, high);
      greatest = omega (arith, ints, low, order, high);
    })
    (record {
      least = omega (arith, ints, low, order, high);
      in_order = omega (arith, ints, low, order, high);
      greatest = omega (arith, ints, low, order, high);
    })
    (record {
      least = omega (arith, ints, low, order, high);
      in_order = omega (arith, ints, low, order, high);
      greatest = omega (arith, ints, low, order, high);
    })
    (record {
      least = omega (arith, ints, low, order, high);
      in_order = omega (arith, ints, low, order, high);
      greatest = omega (arith, ints, low, order, high);
    })
    (record {
      least = omega (arith, ints, low, order, high);
      in_order = omega (arith, ints, low, order, high);
      greatest = omega (arith, ints, low, order, high);
    })
