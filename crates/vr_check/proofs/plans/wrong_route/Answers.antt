use Rattle.std.proofs.Common.{Option, length, sym, ap, ◌∙◌, arith}
use Rattle.vr_model.specs.schedules.Lines.{line}
use Rattle.vr_printed.specs.Printed.{plan_of}
use Rattle.vr_check.specs.Handed.{PlanParts}
use Rattle.vr_check.specs.Plans.{plan_broken, plan_broken_in}
use Rattle.vr_check.specs.declared.finding.Spot.{Spot}
use Rattle.vr_check.specs.declared.plans.PlanRule.{PlanRule}
use Rattle.vr_check.proofs.Firsts.{found, passed_by, ends}
use Rattle.vr_check.proofs.plans.wrong_route.Goals as goal

-- where a rule is broken in a plan, by its parts
abbrev broken_by : PlanRule → PlanParts → Option Spot
broken_by rule it = plan_broken rule (line it.model it.d it.v it.list) it.d it.v (plan_of it.printed)

pub loop-d-preserved : goal.loop-d-preserved
loop-d-preserved c =
    let on = c.args.on.now in
    passed_by (plan_broken_in c.args.rule on.closed.model.now on.v on.route.now) (length on.route.now.plans)
    c.loop-d.d c.loop-d.invariant (omega (arith, c.loop-d-test.true, c.len-d-end.ensures))
    (c.wrong_plan-spot.ensures ∙ ap (broken_by c.args.rule) c.plan-of.ensures) (sym c.is_some.ensures ∙ c.if-is_some.false)

pub returns-then-is_some : goal.returns-then-is_some
returns-then-is_some c =
    let on = c.args.on.now in
    found (plan_broken_in c.args.rule on.closed.model.now on.v on.route.now) (length on.route.now.plans)
    c.loop-d.d c.loop-d.invariant (omega (arith, c.loop-d-test.true, c.len-d-end.ensures))
    (c.wrong_plan-spot.ensures ∙ ap (broken_by c.args.rule) c.plan-of.ensures) (sym c.is_some.ensures ∙ c.if-is_some.true)

pub returns : goal.returns
returns c =
    let on = c.args.on.now in
    ends (plan_broken_in c.args.rule on.closed.model.now on.v on.route.now) (length on.route.now.plans)
    c.loop-d.d c.loop-d.invariant (omega (arith, c.loop-d-test.false, c.len-d-end.ensures))
