use Rattle.std.proofs.Common.{◌≡◌, ◌+◌, suc, ap, ◌∙◌, arith}
use Rattle.std.proofs.lemmas.Int.{ints}
use Rattle.vr_model.specs.schedules.Schedules.{cumul}
use Rattle.vr_printed.specs.Printed.{plan_of}
use Rattle.vr_check.proofs.plans.left_over.Goals as goal

pub overflow_sub-result : goal.overflow_sub-result
overflow_sub-result c = omega (arith, ints, c.from.ensures, c.from-2.ensures, c.from-3.ensures, c.cumul_at.type_inv, c.cumul_at-2.type_inv, c.transit.type_inv)

pub returns : goal.returns
returns c =
    let next : c.args.k + 1 ≡ suc c.args.k = omega arith in
    let there = c.cumul_at.ensures ∙ ap (cumul (plan_of c.args.of.now.plan.now)) next in
    omega (
      arith,
      ints,
      c.from.ensures,
      c.from-2.ensures,
      c.from-3.ensures,
      c.cumul_at.type_inv,
      c.cumul_at-2.type_inv,
      c.transit.type_inv,
      there,
      c.cumul_at-2.ensures,
      c.transit.ensures.value,
    )
