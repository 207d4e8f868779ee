use Rattle.std.proofs.Common.{◌∙◌, sym}
use Rattle.vr_known.proofs.NestLemmas.{all_more}
use Rattle.vr_known.proofs.nests.end_of_front.Goals as goal

pub loop-k-preserved : goal.loop-k-preserved
loop-k-preserved g c = record {
  all = all_more (g.N.Numbered.passes c.args.numbers.now) c.args.from c.loop-k.k c.loop-k.invariant.all (sym c.has.ensures ∙ c.if-not-has.false);
}
