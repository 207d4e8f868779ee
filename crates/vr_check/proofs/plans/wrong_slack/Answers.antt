use Rattle.std.proofs.Common.{length, sym, ◌∙◌, arith}
use Rattle.vr_check.specs.Findings.{spot}
use Rattle.vr_printed.specs.Printed.{plan_of}
use Rattle.vr_check.specs.Asked.{asked_line}
use Rattle.vr_check.specs.Plans.{slack_broken_at}
use Rattle.vr_check.proofs.Firsts.{finds, goes_on, right, not_right}
use Rattle.vr_check.proofs.plans.wrong_slack.Goals as goal

pub loop-k-preserved : goal.loop-k-preserved
loop-k-preserved c = goes_on (slack_broken_at (asked_line c.args.of.now.asked) c.args.of.now.asked.v (plan_of c.args.of.now.plan.now))
    (length c.args.of.now.plan.now.slacks) c.loop-k.k c.loop-k.invariant (omega (arith, c.loop-k-test.true, c.len-k-end.ensures))
    (right (spot c.args.of.now.asked.v c.loop-k.k) (sym c.is_right_slack.ensures ∙ c.if-not-is_right_slack.false))

pub returns-then-not-is_right_slack : goal.returns-then-not-is_right_slack
returns-then-not-is_right_slack c = finds (slack_broken_at (asked_line c.args.of.now.asked) c.args.of.now.asked.v (plan_of c.args.of.now.plan.now))
    (length c.args.of.now.plan.now.slacks) c.loop-k.k c.loop-k.invariant (omega (arith, c.loop-k-test.true, c.len-k-end.ensures))
    (not_right (sym c.is_right_slack.ensures ∙ c.if-not-is_right_slack.true) c.at.ensures)
