use Rattle.std.proofs.Common.{◌≡◌, ◌∙◌, ◌<◌, ◌+◌, ◌-◌, ℕ, subst, arith, length, get_or}
use Rattle.std.specs.Prelude.{◌==◌, ◌||◌, slice_set}
use Rattle.std.proofs.lemmas.List.{length-set}
use Rattle.vr_model.specs.declared.records.Pair.{Pair}
use Rattle.vr_model.specs.tables.WellFormed.{IsPair}
use Rattle.vr_model.proofs.routes.Lists.{visit_below}
use Rattle.vr_lists.specs.Nodes.{node_number}
use Rattle.vr_lists.proofs.NodeLemmas.{numbers_step, set_two}
use Rattle.vr_lists.proofs.nodes.write_pairs.Goals as goal

pub loop-k-preserved : goal.loop-k-preserved
loop-k-preserved c =
    let model = c.args.closed.model.now in
    let m = c.loop-k.invariant in
    let k : ℕ = c.loop-k.k - 1 in
    let low : k < length model.pairs = omega (arith, c.loop-k-test.true, m.within) in
    let more : k + 1 ≡ c.loop-k.k = omega (arith, c.loop-k-test.true) in
    let pair = c.get-pair.result.now in
    let is : get_or model.pairs k pair ≡ pair = c.get-pair.ensures.value pair in
    let visits : IsPair model pair = subst (IsPair model) is (c.args.closed.well_formed.each_pair k pair low) in
    let pickup = visit_below model pair.pickup visits.pickup_is_visit in
    let delivery = visit_below model pair.delivery visits.delivery_is_visit in
    let numbers = c.loop-k.numbers in
    record {
      within = omega (arith, m.within);
      long = length-set (slice_set numbers pair.pickup k) pair.delivery k ∙ length-set numbers pair.pickup k ∙ m.long;
      each = λ node within. numbers_step (λ (pair : Pair). (pair.pickup == node) || (pair.delivery == node))
          model.pairs k c.loop-k.k pair (node_number numbers node)
          (node_number (slice_set (slice_set numbers pair.pickup k) pair.delivery k) node)
          more low is (m.each node within) (set_two numbers pair.pickup pair.delivery k node (omega (arith, pickup, m.long)) (omega (arith, delivery, m.long)));
    }
