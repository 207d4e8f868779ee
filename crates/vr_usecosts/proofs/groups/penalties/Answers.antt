use Rattle.std.proofs.Common.{◌<◌, ℕ, List, length, ap, subst, arith}
use Rattle.std.proofs.lemmas.Int.{ints}
use Rattle.std.specs.Prelude.{IsTrue}
use Rattle.vr_model.specs.declared.records.Group.{Group}
use Rattle.vr_model.specs.routes.Rules.{fits_group}
use Rattle.vr_parts.proofs.SumLemmas.{total-more}
use Rattle.vr_usecosts.proofs.GroupLemmas.{all-fit, group_cost}
use Rattle.vr_usecosts.proofs.groups.penalties.Goals as goal

pub penalty_of-total-requires-clause-fits : goal.penalty_of-total-requires-clause-fits
penalty_of-total-requires-clause-fits c =
    let groups = c.args.closed.model.now.groups in
    let lists : List (List ℕ) = c.args.routes.now.lists in
    let q : Group = c.get.result.now in
    let low : c.loop-g.g < length groups = omega (arith, c.loop-g-test.true, c.len-g-end.ensures) in
    subst (λ (g : Group). IsTrue (fits_group lists g)) (c.get.ensures.value q) (all-fit c.args.closed.model.now lists c.requires.valid c.loop-g.g q low)

pub loop-g-preserved : goal.loop-g-preserved
loop-g-preserved c =
    let groups = c.args.closed.model.now.groups in
    let lists : List (List ℕ) = c.args.routes.now.lists in
    let q : Group = c.get.result.now in
    let low : c.loop-g.g < length groups = omega (arith, c.loop-g-test.true, c.len-g-end.ensures) in
    let more = total-more (group_cost lists) groups c.loop-g.g q low in
    let here = ap (group_cost lists) (c.get.ensures.value q) in
    let a = c.penalty_of-total.ensures in
    let i = c.loop-g.invariant in
    let is = c.loop-g.total-is in
    let few = c.args.closed.well_formed.number_of_groups in
    record {
      value = omega (arith, ints, more, here, a.value, a.range.low, a.range.high, i.value, i.range.low, i.range.high, is, low, few);
      range = record {
        low = omega (arith, ints, a.range.low, a.range.high, i.range.low, i.range.high, is, low, few);
        high = omega (arith, ints, a.range.low, a.range.high, i.range.low, i.range.high, is, low, few);
      };
    }
