use Rattle.std.proofs.Common.{length, sym, ap, ◌∙◌, arith}
use Rattle.vr_check.specs.Asked.{asked_line}
use Rattle.vr_check.specs.Breaks.{plan_of_taken}
use Rattle.vr_check.specs.Plans.{starts_in_range}
use Rattle.vr_model.proofs.tables.Ranges.{all_go_on, all_stop}
use Rattle.vr_check.proofs.breaks.Taken.all_in_range.Goals as goal

pub loop-i-preserved : goal.loop-i-preserved
loop-i-preserved c = all_go_on (starts_in_range (asked_line c.args.self.now.of.asked) (plan_of_taken c.args.self.now))
    (length (asked_line c.args.self.now.of.asked).breaks) c.loop-i.i c.loop-i.invariant
    (omega (arith, c.loop-i-test.true, ap length c.args.self.now.rows_are)) (sym c.starts_in_range.ensures ∙ c.if-not-starts_in_range.false)

pub returns-then-not-starts_in_range : goal.returns-then-not-starts_in_range
returns-then-not-starts_in_range c = all_stop (starts_in_range (asked_line c.args.self.now.of.asked) (plan_of_taken c.args.self.now))
    (length (asked_line c.args.self.now.of.asked).breaks) c.loop-i.i c.loop-i.invariant
    (omega (arith, c.loop-i-test.true, ap length c.args.self.now.rows_are)) (sym c.starts_in_range.ensures ∙ c.if-not-starts_in_range.true)
