use Rattle.std.proofs.Common.{length, sym, ap, ap₂, ◌∙◌, arith}
use Rattle.vr_model.specs.tables.Tables.{no_dimension}
use Rattle.vr_printed.specs.Shape.{no_printed_plan, is_plan_shaped, is_shaped_in}
use Rattle.vr_printed.specs.declared.printed.PrintedPlan.{PrintedPlan}
use Rattle.vr_model.specs.declared.records.Dimension.{Dimension}
use Rattle.vr_model.proofs.tables.Ranges.{all_go_on, all_stop}
use Rattle.vr_printed.proofs.shape.are_plans_shaped.Goals as goal

pub loop-d-preserved : goal.loop-d-preserved
loop-d-preserved c =
    let shaped = λ (dimension : Dimension) (plan : PrintedPlan). is_plan_shaped dimension c.args.vehicle (length c.args.route.now.nodes) plan in
    all_go_on (is_shaped_in c.args.model.now c.args.vehicle c.args.route.now) (length c.args.model.now.dimensions)
    c.loop-d.d c.loop-d.invariant (omega (arith, c.loop-d-test.true, c.len-d-end.ensures))
    (ap₂ shaped (c.get.ensures.value no_dimension) (c.get-in-loop-d.ensures.value no_printed_plan)
    ∙ ap (λ n. is_plan_shaped c.get.result.now c.args.vehicle n c.get-in-loop-d.result.now) (sym c.len-stops.ensures)
    ∙ sym c.is_plan_shaped.ensures ∙ c.if-not-is_plan_shaped.false)

pub returns-then-not-is_plan_shaped : goal.returns-then-not-is_plan_shaped
returns-then-not-is_plan_shaped c =
    let shaped = λ (dimension : Dimension) (plan : PrintedPlan). is_plan_shaped dimension c.args.vehicle (length c.args.route.now.nodes) plan in
    all_stop (is_shaped_in c.args.model.now c.args.vehicle c.args.route.now) (length c.args.model.now.dimensions)
    c.loop-d.d c.loop-d.invariant (omega (arith, c.loop-d-test.true, c.len-d-end.ensures))
    (ap₂ shaped (c.get.ensures.value no_dimension) (c.get-in-loop-d.ensures.value no_printed_plan)
    ∙ ap (λ n. is_plan_shaped c.get.result.now c.args.vehicle n c.get-in-loop-d.result.now) (sym c.len-stops.ensures)
    ∙ sym c.is_plan_shaped.ensures ∙ c.if-not-is_plan_shaped.true)
