use Rattle.std.proofs.Common.{length, ◌-◌, sym, ap, ◌∙◌, arith}
use Rattle.vr_check.specs.Asked.{asked_line}
use Rattle.vr_check.specs.Breaks.{plan_of_taken}
use Rattle.vr_check.specs.Plans.{ends_in_time}
use Rattle.vr_model.proofs.tables.Ranges.{all_go_on, all_stop}
use Rattle.vr_check.proofs.breaks.Taken.all_in_time.Goals as goal

pub loop-i-preserved : goal.loop-i-preserved
loop-i-preserved c = all_go_on (ends_in_time (asked_line c.args.self.now.of.asked) (plan_of_taken c.args.self.now))
    (length (asked_line c.args.self.now.of.asked).breaks - 1) c.loop-i.i c.loop-i.invariant
    (omega (arith, c.loop-i-test.true, ap length c.args.self.now.rows_are)) (sym c.ends_in_time.ensures ∙ c.if-not-ends_in_time.false)

pub returns-then-not-ends_in_time : goal.returns-then-not-ends_in_time
returns-then-not-ends_in_time c = all_stop (ends_in_time (asked_line c.args.self.now.of.asked) (plan_of_taken c.args.self.now))
    (length (asked_line c.args.self.now.of.asked).breaks - 1) c.loop-i.i c.loop-i.invariant
    (omega (arith, c.loop-i-test.true, ap length c.args.self.now.rows_are)) (sym c.ends_in_time.ensures ∙ c.if-not-ends_in_time.true)
