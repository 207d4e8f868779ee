use Rattle.std.proofs.Common.{arith}
use Rattle.vr_pathfilters.proofs.PairLemmas.{all_marked}
use Rattle.vr_pathfilters.proofs.new_lists.mark.Goals as goal

pub returns : goal.returns
returns c = all_marked c.args.list.now c.loop-k.marks c.loop-k.k (omega (arith, c.loop-k-test.false)) c.loop-k.invariant.marked
