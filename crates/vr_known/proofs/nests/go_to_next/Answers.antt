use Rattle.std.proofs.Common.{◌∙◌, sym}
use Rattle.vr_known.proofs.NestLemmas.{run_skips}
use Rattle.vr_known.proofs.nests.go_to_next.Goals as goal

pub loop-run-preserved : goal.loop-run-preserved
loop-run-preserved g c =
    let now = c.loop-run.run in
    let passes = g.N.Numbered.passes now.numbers in
    let move_at = g.N.Numbered.move_at now.numbers in
    record {
      fits = c.loop-run.invariant.fits;
      rest = sym (run_skips passes move_at now.next now.end c.loop-run-test.true (sym c.has.ensures ∙ c.if-has.false)) ∙ c.loop-run.invariant.rest;
    }
