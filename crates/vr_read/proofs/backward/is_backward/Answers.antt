use Rattle.std.proofs.Common.{sym, ◌∙◌, arith}
use Rattle.vr_read.specs.Backward.{is_backward_from}
use Rattle.vr_model.proofs.tables.Ranges.{test_goes_on}
use Rattle.vr_read.proofs.backward.is_backward.Goals as goal

pub loop-i-preserved : goal.loop-i-preserved
loop-i-preserved c = test_goes_on (is_backward_from c.args.of.model.now c.args.evaluator.now) c.args.of.model.now.nodes
    c.loop-i.i c.loop-i.invariant (omega arith) (sym c.is_backward_from.ensures ∙ c.if-is_backward_from.false)
