use Rattle.std.proofs.Common.{arith}
use Rattle.vr_strings.proofs.ListCounts.{counts_more}
use Rattle.vr_strings.proofs.sizes.count.Goals as goal

pub loop-v-preserved : goal.loop-v-preserved
loop-v-preserved c =
    counts_more c.args.routes.now.lists c.loop-v.v c.loop-v.counts.active c.loop-v.counts.used
    c.len.result c.with_list-counts.result.active c.with_list-counts.result.used
    c.loop-v.invariant (omega (arith, c.loop-v-test.true, c.vehicles-v-end.ensures.value))
    c.len.ensures.value c.len.ensures.few c.with_list-counts.ensures.active c.with_list-counts.ensures.used
