use Rattle.std.proofs.Common.{arith, refl}
use Rattle.vr_known.proofs.MemoryLemmas.{notes_all}
use Rattle.vr_known.proofs.stamps.Stamps.note_all.Goals as goal

pub loop-k-preserved : goal.loop-k-preserved
loop-k-preserved c = record {
  so = notes_all c.args.neighbourhoods.now c.args.self.now c.loop-k.self c.learn_below.new.self c.loop-k.k _ _ _
      (omega (arith, c.loop-k-test.true)) refl c.learn_below.ensures c.loop-k.invariant.so;
}
