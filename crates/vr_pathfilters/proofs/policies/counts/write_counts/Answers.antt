use Rattle.std.proofs.Common.{◌≡◌, ◌∙◌, ◌+◌, ◌<◌, length, take, ap, arith}
use Rattle.std.proofs.lemmas.List.{length-set}
use Rattle.std.specs.Prelude.{slice_index}
use Rattle.vr_pathfilters.specs.Counted.{pair_counts, with_node}
use Rattle.vr_pathfilters.proofs.CountLemmas.{counted_more, counts_more, others_stay}
use Rattle.vr_pathfilters.proofs.policies.counts.write_counts.Goals as goal

pub loop-k-preserved : goal.loop-k-preserved
loop-k-preserved c =
    let model = c.args.node_tables.now in
    let list = c.args.list.now in
    let table = c.loop-k.table in
    let k = c.loop-k.k in
    let low : k < length list = omega (arith, c.loop-k-test.true) in
    let long = c.loop-k.invariant.long in
    let node_low = c.requires.nodes k 0 low in
    let within : slice_index list k < length table = omega (arith, node_low, long) in
    let is : c.with_node-counts.result ≡ pair_counts model (take (k + 1) list) =
    c.with_node-counts.ensures ∙ (ap (λ before. with_node model before (slice_index list k)) c.loop-k.invariant.so_far
    ∙ counts_more model c.model-model.ensures.well_formed list k low) in
    record {
      so_far = is;
      long = length-set table (slice_index list k) c.with_node-counts.result ∙ long;
      counted = counted_more model list table k low c.requires.distinct within c.with_node-counts.result is c.loop-k.invariant.counted;
      others = λ node none. others_stay model list table k low c.requires.distinct within c.with_node-counts.result node none
          ∙ c.loop-k.invariant.others node none;
    }
