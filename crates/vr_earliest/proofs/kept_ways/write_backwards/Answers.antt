use Rattle.std.proofs.Common.{◌-◌, sym, arith, drop, length}
use Rattle.std.specs.Prelude.{slice_index_or}
use Rattle.vr_earliest.specs.Entries.{back_from}
use Rattle.vr_earliest.proofs.KeptLemmas.{come-on, rest-next}
use Rattle.vr_earliest.proofs.kept_ways.write_backwards.Goals as goal

pub rest_before-rest-requires-clause-rest : goal.rest_before-rest-requires-clause-rest
rest_before-rest-requires-clause-rest g c =
    c.loop-k.invariant.range 1000 (omega (arith, c.requires.few, c.loop-k-test.true))

pub loop-k-preserved : goal.loop-k-preserved
loop-k-preserved g c =
    let end = g.G.Walk.end_rest c.args.guide.now in
    let before = g.G.Walk.rest_from c.args.guide.now in
    let list = c.args.list.now in
    let k = c.loop-k.k in
    let e = c.rest_before-rest.ensures in
    let here = come-on (λ n. back_from end before (drop (length list - n) list)) (λ rest. before (slice_index_or list (length list - 1 - k) 0) rest) k
    (sym (rest-next end before list k c.loop-k-test.true)) c.loop-k.invariant.rests c.loop-k.invariant.rest e.value c.push-in-loop-k.ensures.items in
    record {
      rests = here.are;
      rest = here.last_is;
      range = λ n low. e.range k n (omega (arith, low)) (c.loop-k.invariant.range k (omega arith));
    }
