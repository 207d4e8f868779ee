use Rattle.std.proofs.Common.{arith}
use Rattle.vr_ruin.specs.Lacking.{missing_items}
use Rattle.vr_ruin.proofs.LackCounts.{counted_more}
use Rattle.vr_ruin.proofs.lacking.missing_items.Goals as goal

pub loop-candidate-preserved : goal.loop-candidate-preserved
loop-candidate-preserved c = record {
  sum = counted_more c.args.closed.model.now c.args.routes.now.lists c.args.candidates.now c.loop-candidate.candidate-index _
      c.loop-candidate.missing c.missing_of_item-missing.result (missing_items c.args.closed.model.now c.args.routes.now.lists)
      c.requires.candidates (omega (arith, c.loop-candidate-test.true)) c.missing_of_item-missing.ensures.value c.loop-candidate.invariant.sum;
  few = omega (arith, c.loop-candidate.invariant.few, c.missing_of_item-missing.ensures.few);
}
