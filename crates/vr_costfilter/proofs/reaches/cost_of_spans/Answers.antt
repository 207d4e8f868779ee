use Rattle.std.proofs.Common.{◌≡◌, ◌∙◌, ◌<◌, length, ap, sym, subst, arith}
use Rattle.std.proofs.lemmas.Int.{ints}
use Rattle.std.proofs.lemmas.List.{get_or_default}
use Rattle.std.specs.Prelude.{◌*ℤ◌}
use Rattle.vr_model.specs.tables.Tables.{dimension_at}
use Rattle.vr_model.proofs.tables.Totals.{total_by-more}
use Rattle.vr_plan.specs.Extents.{length_of}
use Rattle.vr_costfilter.specs.declared.orders.SortedEnds.{SortedEnds}
use Rattle.vr_costfilter.specs.SortedEnds.{AreInRange}
use Rattle.vr_costfilter.specs.GlobalCosts.{extent_after, no_orders, span_cost_after}
use Rattle.vr_costfilter.proofs.reaches.cost_of_spans.Goals as goal

pub cost_of_span-cost-requires-clause-ranged : goal.cost_of_span-cost-requires-clause-ranged
cost_of_span-cost-requires-clause-ranged c pays =
    let d = c.loop-d.d in
    let h = c.requires.ranged in
    let low = c.loop-d-test.true in
    let known : d < length c.args.closed.model.now.dimensions = omega (arith, h.many, low) in
    record {
      dimension = omega (arith, c.args.closed.well_formed.number_of_dimensions, known);
      in_orders =
          subst AreInRange (sym (c.index-orders-d.is ∙ get_or_default c.args.orders.now d c.index-orders-d.result no_orders low)) (h.in_orders d known pays);
      in_rows = h.in_rows d known pays;
    }

pub loop-d-preserved : goal.loop-d-preserved
loop-d-preserved c =
    let i = c.loop-d.invariant in
    let d = c.loop-d.d in
    let m = c.args.closed.model.now in
    let e = c.cost_of_span-cost.ensures in
    let low = c.loop-d-test.true in
    let many = c.requires.ranged.many in
    let few = c.args.closed.well_formed.number_of_dimensions in
    let value : c.cost_of_span-cost.result ≡ span_cost_after m c.args.orders.now c.args.vehicles.now c.args.next.now d = e.value
    ∙ ap (λ (o : SortedEnds). (dimension_at m d).global_span_cost *ℤ length_of (extent_after d c.args.vehicles.now c.args.next.now o))
    (c.index-orders-d.is ∙ get_or_default c.args.orders.now d c.index-orders-d.result no_orders low) in
    let next = total_by-more (span_cost_after m c.args.orders.now c.args.vehicles.now c.args.next.now) d in
    record {
      sum = omega (arith, ints, next, i.sum, value, c.loop-d.cost-is, i.range.low, i.range.high, e.range.low, e.range.high, few, many, low);
      range = record {
        low = omega (arith, ints, c.loop-d.cost-is, i.range.low, i.range.high, e.range.low, e.range.high, few, many, low);
        high = omega (arith, ints, c.loop-d.cost-is, i.range.low, i.range.high, e.range.low, e.range.high, few, many, low);
      };
    }
