use Rattle.std.proofs.Common.{length, sym, ap, ◌∙◌, arith}
use Rattle.vr_check.specs.Asked.{asked_line}
use Rattle.vr_check.specs.Breaks.{plan_of_taken}
use Rattle.vr_model.specs.schedules.Schedules.{both_sides}
use Rattle.vr_model.specs.deciding.ScheduleTests.{is_placed}
use Rattle.vr_model.proofs.tables.Ranges.{all_go_on, all_stop}
use Rattle.vr_check.proofs.breaks.Taken.all_placed.Goals as goal

pub loop-i-preserved : goal.loop-i-preserved
loop-i-preserved c =
    all_go_on (is_placed both_sides (asked_line c.args.self.now.of.asked) (plan_of_taken c.args.self.now)) (length (asked_line c.args.self.now.of.asked).breaks)
    c.loop-i.i c.loop-i.invariant (omega (arith, c.loop-i-test.true, ap length c.args.self.now.rows_are)) (sym c.is_placed.ensures ∙ c.if-not-is_placed.false)

pub returns-then-not-is_placed : goal.returns-then-not-is_placed
returns-then-not-is_placed c =
    all_stop (is_placed both_sides (asked_line c.args.self.now.of.asked) (plan_of_taken c.args.self.now)) (length (asked_line c.args.self.now.of.asked).breaks)
    c.loop-i.i c.loop-i.invariant (omega (arith, c.loop-i-test.true, ap length c.args.self.now.rows_are)) (sym c.is_placed.ensures ∙ c.if-not-is_placed.true)
