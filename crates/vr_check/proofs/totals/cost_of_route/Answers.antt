use Rattle.std.proofs.Common.{◌≡◌, ◌∙◌, sym, ap, arith}
use Rattle.std.proofs.lemmas.Int.{ints}
use Rattle.vr_check.specs.Handed.{parts_of_route}
use Rattle.vr_check.specs.Totals.{part_cost}
use Rattle.vr_check.specs.declared.totals.RoutePart.TheVariants.{Fixed}
use Rattle.vr_check.proofs.Widths.{read128, wide}
use Rattle.vr_check.proofs.totals.cost_of_route.Goals as goal

pub returns-in-Arcs-clause-value : goal.returns-in-Arcs-clause-value
returns-in-Arcs-clause-value c = wide c.arcs_of_route.result c.arcs_of_route.type_inv
    ∙ c.arcs_of_route.ensures.value ∙ sym (ap (λ part. part_cost part (parts_of_route c.args.on.now)) c.in-Arcs.is)

pub returns-in-Arcs-clause-range : goal.returns-in-Arcs-clause-range
returns-in-Arcs-clause-range c =
    let arcs = c.arcs_of_route.ensures in
    record { at_least = omega (arith, ints, arcs.low); at_most = omega (arith, ints, arcs.high) }

pub returns-in-Fixed-clause-value : goal.returns-in-Fixed-clause-value
returns-in-Fixed-clause-value c =
    let fixed = c.fixed_of_route.ensures in
    let value : read128 c.from.result ≡ part_cost Fixed (parts_of_route c.args.on.now) =
    omega (arith, ints, c.from.ensures, fixed.value, fixed.low, fixed.high) in
    value ∙ sym (ap (λ part. part_cost part (parts_of_route c.args.on.now)) c.in-Fixed.is)

pub returns-in-Fixed-clause-range : goal.returns-in-Fixed-clause-range
returns-in-Fixed-clause-range c =
    let fixed = c.fixed_of_route.ensures in
    record { at_least = omega (arith, ints, c.from.ensures, fixed.low, fixed.high); at_most = omega (arith, ints, c.from.ensures, fixed.low, fixed.high) }

pub returns-in-Plans-clause-value : goal.returns-in-Plans-clause-value
returns-in-Plans-clause-value c = wide c.over_plans.result c.over_plans.type_inv ∙ c.over_plans.ensures.value
    ∙ sym (ap (λ part. part_cost part (parts_of_route c.args.on.now)) c.in-Plans.is)
