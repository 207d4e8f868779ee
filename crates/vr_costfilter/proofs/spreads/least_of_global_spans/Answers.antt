use Rattle.std.proofs.Common.{◌≡◌, ◌∙◌, ◌<◌, ℕ, List, ap, length, sym, subst, arith}
use Rattle.std.proofs.lemmas.Int.{ints}
use Rattle.std.proofs.lemmas.List.{get_or_default}
use Rattle.vr_model.specs.tables.Numbers.{below, total_by}
use Rattle.vr_model.proofs.tables.Totals.{total_by-more}
use Rattle.vr_costfilter.specs.GlobalCosts.{no_orders, AreAllOrders}
use Rattle.vr_costfilter.specs.SortedEnds.{AreInRange, AreOrders}
use Rattle.vr_costfilter.specs.Spreads.{global_least_in}
use Rattle.vr_costfilter.proofs.spreads.least_of_global_spans.Goals as goal

pub least_of_global_span-cost-requires-clause-orders : goal.least_of_global_span-cost-requires-clause-orders
least_of_global_span-cost-requires-clause-orders c pays =
    let low = c.loop-d-test.true in
    let known : c.loop-d.d < length c.args.early.now.model.now.dimensions = omega (arith, c.requires.many, low) in
    subst AreInRange (sym (c.index-orders-d.is ∙ get_or_default c.args.orders.now c.loop-d.d c.index-orders-d.result no_orders low))
    (c.requires.in_orders c.loop-d.d known pays)

pub loop-d-preserved : goal.loop-d-preserved
loop-d-preserved c =
    let model = c.args.early.now.model.now in
    let d = c.loop-d.d in
    let i = c.loop-d.invariant in
    let e = c.least_of_global_span-cost.ensures in
    let few = c.args.early.now.sound.well_formed.number_of_dimensions in
    let low = c.loop-d-test.true in
    let many = c.requires.many in
    let known : d < length model.dimensions = omega (arith, many, low) in
    record {
      sum = λ lists are orders.
          let next = total_by-more (global_least_in model lists c.args.early.now.change.now) d in
          let value = e.value lists are
          (λ pays. subst (AreOrders model d lists)
          (sym (c.index-orders-d.is ∙ get_or_default c.args.orders.now d c.index-orders-d.result no_orders low)) (orders.each d known pays)) in
          let before = i.sum lists are orders in
          omega (arith, ints, next, before, value, c.loop-d.cost-is, i.range.low, i.range.high, e.range.low, e.range.high, few, many, low);
      range = record {
        low = omega (arith, ints, c.loop-d.cost-is, i.range.low, i.range.high, e.range.low, e.range.high, few, many, low);
        high = omega (arith, ints, c.loop-d.cost-is, i.range.low, i.range.high, e.range.low, e.range.high, few, many, low);
      };
    }

pub returns-clause-value : goal.returns-clause-value
returns-clause-value c lists are orders =
    let model = c.args.early.now.model.now in
    let all : c.loop-d.d ≡ length model.dimensions = omega (arith, c.requires.many, c.loop-d-test.false, c.loop-d.auto.d-end) in
    c.loop-d.invariant.sum lists are orders ∙ ap (λ n. total_by (global_least_in model lists c.args.early.now.change.now) (below n)) all
