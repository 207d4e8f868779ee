use Rattle.std.proofs.Common.{length, sym, ◌∙◌, arith}
use Rattle.vr_model.specs.schedules.Schedules.{is_inside}
use Rattle.vr_check.specs.Asked.{asked_line}
use Rattle.vr_check.specs.Breaks.{plan_of_taken}
use Rattle.vr_model.proofs.tables.Ranges.{test_finds, test_goes_on}
use Rattle.vr_check.proofs.breaks.TakenBreak.is_inside_some.Goals as goal

pub returns-then-is_inside : goal.returns-then-is_inside
returns-then-is_inside c = test_finds (is_inside (asked_line c.args.self.now.taken.of.asked) (plan_of_taken c.args.self.now.taken) c.args.self.now.i)
    (length (asked_line c.args.self.now.taken.of.asked).arcs) c.loop-k.k c.loop-k.invariant
    (omega (arith, c.loop-k-test.true, c.arcs-k-end.ensures.line)) (sym c.is_inside.ensures ∙ c.if-is_inside.true)

pub loop-k-preserved : goal.loop-k-preserved
loop-k-preserved c = test_goes_on (is_inside (asked_line c.args.self.now.taken.of.asked) (plan_of_taken c.args.self.now.taken) c.args.self.now.i)
    (length (asked_line c.args.self.now.taken.of.asked).arcs) c.loop-k.k c.loop-k.invariant
    (omega (arith, c.loop-k-test.true, c.arcs-k-end.ensures.line)) (sym c.is_inside.ensures ∙ c.if-is_inside.false)
