use Rattle.std.proofs.Common.{◌∙◌, arith}
use Rattle.std.proofs.lemmas.List.{length-drop}
use Rattle.vr_io.proofs.EdgeLemmas.{Took-more, drop_rest}
use Rattle.vr_io.proofs.whole.write_all.Goals as goal

pub loop-at-preserved : goal.loop-at-preserved
loop-at-preserved g c = record {
  took = Took-more _ _ _ _ _ _ c.loop-at.invariant.in_range c.loop-at.invariant.took (rw (drop_rest c.args.bytes.now c.loop-at.at) at c.in-Ok.ensures.takes);
  in_range = omega (arith, c.in-Ok.ensures.bound, length-drop c.loop-at.at c.args.bytes.now);
  grows = omega (arith, c.loop-at.invariant.grows, c.in-Ok.ensures.grows);
  quiet = c.in-Ok.ensures.quiet ∙ c.loop-at.invariant.quiet;
}
