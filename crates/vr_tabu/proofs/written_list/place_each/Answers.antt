use Rattle.std.proofs.Common.{arith}
use Rattle.vr_tabu.proofs.PlaceLemmas.{all_placed}
use Rattle.vr_tabu.proofs.written_list.place_each.Goals as goal

pub returns : goal.returns
returns c = all_placed c.args.list.now c.loop-k.places c.loop-k.k (omega (arith, c.loop-k-test.false)) c.loop-k.invariant.placed
