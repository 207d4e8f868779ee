use Rattle.std.proofs.Common.{◌∙◌, ◌<◌, sym, ap, arith, length}
use Rattle.std.specs.Prelude.{count_by}
use Rattle.std.proofs.lemmas.Int.{ints}
use Rattle.vr_model.specs.declared.records.Group.{Group}
use Rattle.vr_rules.specs.Placing.{is_marked}
use Rattle.vr_model.proofs.tables.Tests.{all-from_list_all}
use Rattle.vr_rules.specs.Placing.{fits_by}
use Rattle.vr_rules.proofs.PenaltyLemmas.{le-of-test, penalty_of_first-more}
use Rattle.vr_rules.proofs.penalties.penalty_of_groups.Goals as goal

pub penalty_of_group-total-requires-clause-fits : goal.penalty_of_group-total-requires-clause-fits
penalty_of_group-total-requires-clause-fits c =
    let groups = c.args.closed.model.now.groups in
    let marks = c.args.marks.now in
    let group : Group = c.get.result.now in
    le-of-test (count_by (is_marked marks) group.nodes) group.max
    (ap (fits_by marks) (sym (c.get.ensures.value group)) ∙ all-from_list_all (fits_by marks) groups c.requires.fit c.loop-k.k group (omega arith))

pub loop-k-preserved : goal.loop-k-preserved
loop-k-preserved c =
    let model = c.args.closed.model.now in
    let group : Group = c.get.result.now in
    let low : c.loop-k.k < length model.groups = omega arith in
    let few = c.args.closed.well_formed.number_of_groups in
    let more = penalty_of_first-more model c.args.marks.now c.loop-k.k group low (c.get.ensures.value group) in
    let penalty = c.penalty_of_group-total.ensures in
    let so_far = c.loop-k.invariant in
    record {
      sum = omega (arith, ints, low, few, more, penalty.value, penalty.low, penalty.high, so_far.sum, so_far.low, so_far.high);
      low = omega (arith, ints, low, few, penalty.low, penalty.high, so_far.low, so_far.high);
      high = omega (arith, ints, low, few, penalty.low, penalty.high, so_far.low, so_far.high);
    }
