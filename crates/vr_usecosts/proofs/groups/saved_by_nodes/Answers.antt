use Rattle.std.proofs.Common.{arith}
use Rattle.std.proofs.lemmas.Int.{ints}
use Rattle.vr_model.specs.tables.Numbers.{number_at}
use Rattle.vr_parts.proofs.SumLemmas.{total-more}
use Rattle.vr_usecosts.proofs.groups.saved_by_nodes.Goals as goal

pub loop-k-preserved : goal.loop-k-preserved
loop-k-preserved c =
    let more = total-more (number_at c.args.saved.now) c.args.nodes.now c.loop-k.k 0 c.loop-k-test.true in
    let a = c.saved_at-total.ensures in
    let i = c.loop-k.invariant in
    let few = c.requires.few_nodes in
    let less = c.loop-k-test.true in
    record {
      value = omega (arith, ints, more, a.value, a.range.low, a.range.high, i.value, i.range.low, i.range.high, few, less);
      range = record {
        low = omega (arith, ints, a.range.low, a.range.high, i.range.low, i.range.high, few, less);
        high = omega (arith, ints, a.range.low, a.range.high, i.range.low, i.range.high, few, less);
      };
    }
