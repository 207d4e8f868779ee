use Rattle.std.proofs.Common.{◌≡◌, ◌∙◌, ap, sym, subst, arith}
use Rattle.std.proofs.lemmas.Int.{ints}
use Rattle.std.specs.Prelude.{◌*ℤ◌, pos}
use Rattle.vr_model.specs.tables.WellFormed.{IsIn}
use Rattle.vr_model.specs.tables.Tables.{dimension_at, no_dimension}
use Rattle.vr_plan.specs.Extents.{length_of}
use Rattle.vr_rules.proofs.PartLemmas.{sums-bounded, AreTimed-more}
use Rattle.vr_rules.proofs.parts.with_dimension.Goals as goal

pub global_cost-requires-clause-coefficient : goal.global_cost-requires-clause-coefficient
global_cost-requires-clause-coefficient c =
    subst (λ x. IsIn (pos 0) (pos 10000) x.global_span_cost) (c.get-dimension.ensures.value no_dimension)
    (c.args.of.now.lookups.now.closed.well_formed.each_dimension c.args.of.now.d no_dimension c.args.of.now.dimension).global_span_cost_in_range

pub overflow_add-result-2 : goal.overflow_add-result-2
overflow_add-result-2 c =
    let b = sums-bounded c.args.of.now c.in_ok-sums.sums c.in_ok-sums.ensures in
    omega (
      arith,
      ints,
      c.args.of.now.lookups.now.closed.well_formed.number_of_dimensions,
      c.args.of.now.dimension,
      c.requires.soft_not_negative,
      c.requires.soft_bound,
      b.soft_not_negative,
      b.soft_bound,
    )

pub overflow_add-result-3 : goal.overflow_add-result-3
overflow_add-result-3 c =
    let b = sums-bounded c.args.of.now c.in_ok-sums.sums c.in_ok-sums.ensures in
    omega (
      arith,
      ints,
      c.args.of.now.lookups.now.closed.well_formed.number_of_dimensions,
      c.args.of.now.dimension,
      c.requires.span_in_range.low,
      c.requires.span_in_range.high,
      b.span.low,
      b.span.high,
    )

pub returns : goal.returns
returns c =
    let model = c.args.of.now.lookups.now.closed.model.now in
    let d = c.args.of.now.d in
    let sums = c.in_ok-sums.sums in
    let b = sums-bounded c.args.of.now sums c.in_ok-sums.ensures in
    let t = c.requires in
    let few = c.args.of.now.lookups.now.closed.well_formed.number_of_dimensions in
    let low = c.args.of.now.dimension in
    let g = c.global_cost.ensures in
    let paid : c.global_cost.result ≡ (dimension_at model d).global_span_cost *ℤ length_of sums.extent = g.value
    ∙ ap (λ x. x.global_span_cost *ℤ length_of sums.extent) (sym (c.get-dimension.ensures.value no_dimension)) in
    AreTimed-more model c.args.of.now.routes.now.lists d c.args.timed _ sums c.global_cost.result low t c.in_ok-sums.ensures b paid g.range
    (omega (arith, ints, few, low, t.soft_not_negative, t.soft_bound, b.soft_not_negative, b.soft_bound))
    (omega (arith, ints, few, low, t.span_in_range.low, t.span_in_range.high, b.span.low, b.span.high))
    (omega (arith, ints, few, low, t.global_in_range.low, t.global_in_range.high, g.range.low, g.range.high))
