use Rattle.std.proofs.Common.{◌≡◌, ◌∙◌, ◌<◌, ap, sym, subst, arith, length}
use Rattle.std.proofs.lemmas.Int.{ints}
use Rattle.std.specs.Prelude.{All, ◌-ℤ◌, ◌*ℤ◌, pos}
use Rattle.vr_model.specs.tables.Numbers.{number_at}
use Rattle.vr_model.specs.tables.Tables.{dimension_at, no_dimension}
use Rattle.vr_model.specs.tables.WellFormed.{IsIn}
use Rattle.vr_costfilter.proofs.schedule_costs.cost_of_timing.Goals as goal

pub span_cost-requires-clause-vehicle : goal.span_cost-requires-clause-vehicle
span_cost-requires-clause-vehicle c =
    let is = c.args.closed.well_formed.each_dimension c.args.d no_dimension c.requires.dimension in
    subst (λ x. c.args.v < length x.span_costs) (c.get-dimension.ensures.value no_dimension)
    (subst (λ n. c.args.v < n) (sym is.span_cost_of_each_vehicle) c.requires.vehicle)

pub span_cost-requires-clause-coefficients : goal.span_cost-requires-clause-coefficients
span_cost-requires-clause-coefficients c =
    let is = c.args.closed.well_formed.each_dimension c.args.d no_dimension c.requires.dimension in
    subst (λ x. All (IsIn (pos 0) (pos 10000)) x.span_costs) (c.get-dimension.ensures.value no_dimension) is.span_costs_in_range

pub overflow_add-result : goal.overflow_add-result
overflow_add-result c =
    let r = c.requires.timing in
    let s = c.span_cost.ensures.range in
    let n = r.not_negative in
    let b = r.bound in
    omega (arith, ints, n, b, s.low, s.high)

pub returns-clause-value : goal.returns-clause-value
returns-clause-value c =
    let timing = c.args.timing in
    let r = c.requires.timing in
    let s = c.span_cost.ensures.range in
    let n = r.not_negative in
    let b = r.bound in
    let span : c.span_cost.result ≡ number_at (dimension_at c.args.closed.model.now c.args.d).span_costs c.args.v *ℤ (timing.last -ℤ timing.start) =
    c.span_cost.ensures.value ∙ ap (λ x. number_at x.span_costs c.args.v *ℤ (timing.last -ℤ timing.start)) (sym (c.get-dimension.ensures.value no_dimension)) in
    omega (arith, ints, span, n, b, s.low, s.high)

pub returns-clause-range : goal.returns-clause-range
returns-clause-range c =
    let r = c.requires.timing in
    let s = c.span_cost.ensures.range in
    let n = r.not_negative in
    let b = r.bound in
    record { low = omega (arith, ints, n, b, s.low, s.high); high = omega (arith, ints, n, b, s.low, s.high) }
