use Rattle.std.proofs.Common.{◌∙◌, sym, ap, arith}
use Rattle.std.proofs.lemmas.Int.{ints}
use Rattle.vr_model.specs.tables.Tables.{dimension_at}
use Rattle.vr_model.specs.schedules.Lines.{stop_rows}
use Rattle.vr_check.specs.Terms.{soft_along}
use Rattle.vr_check.specs.Totals.{plan_cost}
use Rattle.vr_check.proofs.Widths.{wide}
use Rattle.vr_check.proofs.totals.cost_of_plan.Goals as goal

pub returns-in-Soft-clause-value : goal.returns-in-Soft-clause-value
returns-in-Soft-clause-value c =
    let on = c.args.on.now in
    wide c.soft_of_plan.result c.soft_of_plan.type_inv ∙ c.soft_of_plan.ensures.value
    ∙ ap (λ it. soft_along (stop_rows (dimension_at it.model it.d) it.v it.list) it.printed.cumuls) c.plan-of.ensures
    ∙ sym (ap (λ part. plan_cost part on.closed.model.now on.v on.route.now c.args.d) c.in-Soft.is)

pub returns-in-Span-clause-value : goal.returns-in-Span-clause-value
returns-in-Span-clause-value c =
    let on = c.args.on.now in
    wide c.span_cost.result c.span_cost.type_inv ∙ c.span_cost.ensures.value
    ∙ sym (ap (λ part. plan_cost part on.closed.model.now on.v on.route.now c.args.d) c.in-Span.is)

pub returns-in-Span-clause-range : goal.returns-in-Span-clause-range
returns-in-Span-clause-range c =
    let cost = c.span_cost.ensures.range in
    record { at_least = omega (arith, ints, cost.at_least); at_most = omega (arith, ints, cost.at_most) }
