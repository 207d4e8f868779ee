use Rattle.std.proofs.Common.{◌≡◌, ◌∙◌, arith, to_z, of_z, w64}
use Rattle.std.proofs.lemmas.Int.{ints}
use Rattle.vr_first_insert.specs.declared.choice.Placing.TheVariants.{One}
use Rattle.vr_first_insert.proofs.ReadyLemmas.{few-held}
use Rattle.vr_first_insert.proofs.one_list.visit_at.Goals as goal

pub overflow_cast-result : goal.overflow_cast-result
overflow_cast-result c = omega (arith, few-held c.args.visit.now.list c.args.visit.now.may_hold)

pub returns : goal.returns
returns c =
    let fits : to_z w64 (of_z w64 c.visit_increase.result) ≡ c.visit_increase.result =
    omega (arith, ints, c.visit_increase.ensures.low, c.visit_increase.ensures.high) in
    let increase = fits ∙ c.visit_increase.ensures.value in
    λ i. record { placing = One c.args.visit.now.node c.args.t; class = c.args.visit.now.class; vehicle = c.args.visit.now.list.vehicle; increase = increase i }
