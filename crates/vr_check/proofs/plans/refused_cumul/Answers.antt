use Rattle.std.proofs.Common.{length, sym, ap, ◌∙◌, arith}
use Rattle.vr_model.specs.schedules.Schedules.{allows}
use Rattle.vr_check.specs.Findings.{spot}
use Rattle.vr_printed.specs.Printed.{plan_of}
use Rattle.vr_check.specs.Asked.{asked_line}
use Rattle.vr_check.specs.Plans.{cumul_broken_at}
use Rattle.vr_check.proofs.Firsts.{finds, goes_on, right, not_right}
use Rattle.vr_check.proofs.Widths.{narrow}
use Rattle.vr_check.proofs.plans.refused_cumul.Goals as goal

pub loop-k-preserved : goal.loop-k-preserved
loop-k-preserved c = goes_on (cumul_broken_at (asked_line c.args.of.now.asked) c.args.of.now.asked.v (plan_of c.args.of.now.plan.now))
    (length c.args.of.now.plan.now.cumuls) c.loop-k.k c.loop-k.invariant (omega (arith, c.loop-k-test.true, c.len-k-end.ensures))
    (right (spot c.args.of.now.asked.v c.loop-k.k)
    (ap (allows (asked_line c.args.of.now.asked) c.loop-k.k) (sym (narrow c.cumul_at.result c.cumul_at.type_inv ∙ c.cumul_at.ensures))
    ∙ sym c.allows.ensures ∙ c.if-not-allows.false))

pub returns-then-not-allows : goal.returns-then-not-allows
returns-then-not-allows c = finds (cumul_broken_at (asked_line c.args.of.now.asked) c.args.of.now.asked.v (plan_of c.args.of.now.plan.now))
    (length c.args.of.now.plan.now.cumuls) c.loop-k.k c.loop-k.invariant (omega (arith, c.loop-k-test.true, c.len-k-end.ensures))
    (not_right (ap (allows (asked_line c.args.of.now.asked) c.loop-k.k) (sym (narrow c.cumul_at.result c.cumul_at.type_inv ∙ c.cumul_at.ensures))
    ∙ sym c.allows.ensures ∙ c.if-not-allows.true) c.at.ensures)
