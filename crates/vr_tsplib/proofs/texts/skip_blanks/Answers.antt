use Rattle.std.proofs.Common.{◌+◌, get_or, drop, sym, ◌∙◌, arith}
use Rattle.std.proofs.lemmas.List.{at_drop_more}
use Rattle.vr_tsplib.specs.Texts.{words}
use Rattle.vr_tsplib.proofs.TextLemmas.{skipped}
use Rattle.vr_tsplib.proofs.texts.skip_blanks.Goals as goal

pub loop-k-preserved : goal.loop-k-preserved
loop-k-preserved c =
    let text = c.args.text.now in
    let k = c.loop-k.k in
    record {
      so_far = sym (skipped (get_or text k 0) (drop (k + 1) text) (sym c.is_blank.ensures ∙ c.if-is_blank.true))
          ∙ sym (at_drop_more words text k 0 c.loop-k-test.true) ∙ c.loop-k.invariant.so_far;
      in_range = omega (arith, c.loop-k-test.true);
    }
