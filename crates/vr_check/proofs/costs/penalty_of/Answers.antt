use Rattle.std.proofs.Common.{◌∙◌, ◌<◌, length, take, sym, subst, ap, arith}
use Rattle.std.proofs.lemmas.Int.{ints}
use Rattle.std.proofs.lemmas.List.{take_more}
use Rattle.vr_model.specs.tables.Numbers.{total_by}
use Rattle.vr_model.specs.tables.WellFormed.{IsGroup}
use Rattle.vr_check.specs.Visits.{no_group}
use Rattle.vr_check.proofs.Totalling.{group_cost, total_push}
use Rattle.vr_check.proofs.costs.penalty_of.Goals as goal

pub penalty_of_group-total-requires : goal.penalty_of_group-total-requires
penalty_of_group-total-requires c =
    let low : c.loop-g.g < length c.args.closed.model.now.groups = omega (arith, c.loop-g-test.true, c.len-g-end.ensures) in
    (subst (IsGroup c.args.closed.model.now) (c.get.ensures.value no_group) (c.args.closed.well_formed.each_group c.loop-g.g no_group low)).penalty_in_range

pub loop-g-preserved : goal.loop-g-preserved
loop-g-preserved c =
    let groups = c.args.closed.model.now.groups in
    let lists = c.args.lists.now in
    let g = c.loop-g.g in
    let low : g < length groups = omega (arith, c.loop-g-test.true, c.len-g-end.ensures) in
    let cost = c.penalty_of_group-total.ensures in
    let value = cost.value ∙ ap (group_cost lists) (sym (c.get.ensures.value no_group)) in
    let more = ap (total_by (group_cost lists)) (take_more groups g no_group low) ∙ total_push (group_cost lists) (take g groups) _ in
    let so_far = c.loop-g.invariant in
    let few = c.args.closed.well_formed.number_of_groups in
    record {
      sum = omega (arith, ints, value, more, cost.range.at_least, cost.range.at_most, so_far.sum, so_far.range.at_least, so_far.range.at_most, low, few);
      range = record {
        at_least = omega (arith, ints, cost.range.at_least, cost.range.at_most, so_far.range.at_least, so_far.range.at_most, low, few);
        at_most = omega (arith, ints, cost.range.at_least, cost.range.at_most, so_far.range.at_least, so_far.range.at_most, low, few);
      };
    }
