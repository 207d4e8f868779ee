use Rattle.std.proofs.Common.{◌∙◌, length, sym, ap, ap₂, arith}
use Rattle.std.specs.Prelude.{◌*ℤ◌}
use Rattle.vr_printed.specs.Shape.{no_printed_plan}
use Rattle.vr_printed.proofs.Shaped.{lengths_of}
use Rattle.vr_check.specs.Terms.{span_along}
use Rattle.vr_check.proofs.Widths.{narrow, wide}
use Rattle.vr_check.proofs.spans.span_cost.Goals as goal

pub span_coefficient-coefficient-requires-clause-vehicle : goal.span_coefficient-coefficient-requires-clause-vehicle
span_coefficient-coefficient-requires-clause-vehicle c = c.args.on.now.sound.vehicle

pub span_coefficient-coefficient-requires-clause-dimension : goal.span_coefficient-coefficient-requires-clause-dimension
span_coefficient-coefficient-requires-clause-dimension c =
    let on = c.args.on.now in
    (lengths_of on.closed.model.now on.v on.route.now on.sound.shaped c.args.d c.requires).dimension

pub span_of_plan-requires : goal.span_of_plan-requires
span_of_plan-requires c =
    let on = c.args.on.now in
    let lengths = lengths_of on.closed.model.now on.v on.route.now on.sound.shaped c.args.d c.requires in
    let same = ap (λ plan. length plan.cumuls) (c.get.ensures.value no_printed_plan) in
    omega (arith, lengths.cumuls, lengths.nodes, same)

pub returns-clause-value : goal.returns-clause-value
returns-clause-value c =
    let coefficient = narrow c.span_coefficient-coefficient.result c.span_coefficient-coefficient.type_inv ∙ c.span_coefficient-coefficient.ensures.value in
    let span = wide c.span_of_plan.result c.span_of_plan.type_inv ∙ c.span_of_plan.ensures.value
    ∙ ap (λ plan. span_along plan.cumuls) (sym (c.get.ensures.value no_printed_plan)) in
    wide c.times.result c.times.type_inv ∙ c.times.ensures.value ∙ ap₂ (λ x y. x *ℤ y) coefficient span
