use Rattle.std.proofs.Common.{length, sym, ◌∙◌, arith}
use Rattle.vr_check.specs.Asked.{asked_line}
use Rattle.vr_check.specs.Breaks.{plan_of_taken}
use Rattle.vr_check.specs.Plans.{carries_breaks}
use Rattle.vr_model.proofs.tables.Ranges.{all_go_on, all_stop}
use Rattle.vr_check.proofs.breaks.Taken.all_carried.Goals as goal

pub loop-k-preserved : goal.loop-k-preserved
loop-k-preserved c =
    all_go_on (carries_breaks (asked_line c.args.self.now.of.asked) (plan_of_taken c.args.self.now)) (length c.args.self.now.of.plan.now.slacks)
    c.loop-k.k c.loop-k.invariant (omega (arith, c.loop-k-test.true, c.len-k-end.ensures)) (sym c.carries.ensures ∙ c.if-not-carries.false)

pub returns-then-not-carries : goal.returns-then-not-carries
returns-then-not-carries c =
    all_stop (carries_breaks (asked_line c.args.self.now.of.asked) (plan_of_taken c.args.self.now)) (length c.args.self.now.of.plan.now.slacks)
    c.loop-k.k c.loop-k.invariant (omega (arith, c.loop-k-test.true, c.len-k-end.ensures)) (sym c.carries.ensures ∙ c.if-not-carries.true)
