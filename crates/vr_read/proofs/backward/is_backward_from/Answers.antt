use Rattle.std.proofs.Common.{sym, ◌∙◌, arith}
use Rattle.vr_read.specs.Backward.{is_backward_arc}
use Rattle.vr_model.proofs.tables.Ranges.{test_goes_on}
use Rattle.vr_read.proofs.backward.is_backward_from.Goals as goal

pub loop-j-preserved : goal.loop-j-preserved
loop-j-preserved c = test_goes_on (is_backward_arc c.args.of.model.now c.args.evaluator.now c.args.i) c.args.of.model.now.nodes
    c.loop-j.j c.loop-j.invariant (omega arith) (sym c.is_backward_arc.ensures ∙ c.if-is_backward_arc.false)
