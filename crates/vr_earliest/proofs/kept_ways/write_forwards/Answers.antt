use Rattle.std.proofs.Common.{sym, arith}
use Rattle.std.proofs.lemmas.List.Sums.{fold_more}
use Rattle.std.specs.Prelude.{fold, slice_index_or, take}
use Rattle.vr_earliest.proofs.KeptLemmas.{come-on}
use Rattle.vr_earliest.proofs.kept_ways.write_forwards.Goals as goal

pub way_to_visit-way-requires-clause-way : goal.way_to_visit-way-requires-clause-way
way_to_visit-way-requires-clause-way g c =
    c.loop-k.invariant.range 10000 (omega (arith, c.requires.few, c.loop-k-test.true))

pub loop-k-preserved : goal.loop-k-preserved
loop-k-preserved g c =
    let start = g.G.Walk.start_way c.args.guide.now in
    let on = g.G.Walk.way_on c.args.guide.now in
    let list = c.args.list.now in
    let k = c.loop-k.k in
    let e = c.way_to_visit-way.ensures in
    let here = come-on (λ n. fold on start (take n list)) (λ way. on way (slice_index_or list k 0)) k
    (sym (fold_more on start list k 0 c.loop-k-test.true)) c.loop-k.invariant.ways c.loop-k.invariant.way e.value c.push-in-loop-k.ensures.items in
    record {
      ways = here.are;
      way = here.last_is;
      range = λ n low. e.range k n (omega (arith, low)) (c.loop-k.invariant.range k (omega arith));
    }
