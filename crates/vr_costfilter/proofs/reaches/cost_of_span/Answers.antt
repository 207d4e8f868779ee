use Rattle.std.proofs.Common.{◌∙◌, ap, ap₂, sym, subst, arith}
use Rattle.std.proofs.lemmas.Int.{ints}
use Rattle.std.specs.Prelude.{pos, ◌*ℤ◌}
use Rattle.vr_model.specs.tables.Tables.{dimension_at, no_dimension}
use Rattle.vr_model.specs.tables.WellFormed.{IsIn}
use Rattle.vr_plan.specs.Bounds.{cumul_cost}
use Rattle.vr_plan.specs.Extents.{length_of}
use Rattle.vr_plan.proofs.BoundLemmas.{read-around}
use Rattle.vr_plan.proofs.ExtentLemmas.{times-none}
use Rattle.vr_costfilter.specs.GlobalCosts.{extent_after}
use Rattle.vr_costfilter.proofs.reaches.cost_of_span.Goals as goal

pub global_cost-requires-clause-coefficient : goal.global_cost-requires-clause-coefficient
global_cost-requires-clause-coefficient c =
    subst (λ x. IsIn (pos 0) (pos 10000) x.global_span_cost) (c.get-dimension.ensures.value no_dimension)
    (c.args.closed.well_formed.each_dimension c.args.d no_dimension c.requires.dimension).global_span_cost_in_range

pub reach-requires : goal.reach-requires
reach-requires c =
    let same = ap (λ x. x.global_span_cost) (c.get-dimension.ensures.value no_dimension) in
    c.requires.ranged (λ none. absurd (omega (arith, ints, c.if-dimension-eq0.false, same, none)))

pub returns-clause-value : goal.returns-clause-value
returns-clause-value c =
    read-around c.global_cost.result cumul_cost c.global_cost.ensures.range (omega arith) ∙ c.global_cost.ensures.value
    ∙ ap₂ (λ x extent. x *ℤ length_of extent) (ap (λ x. x.global_span_cost) (sym (c.get-dimension.ensures.value no_dimension))) c.reach.ensures.value

pub returns-then-dimension-eq0-clause-value : goal.returns-then-dimension-eq0-clause-value
returns-then-dimension-eq0-clause-value c =
    let same = ap (λ x. x.global_span_cost) (c.get-dimension.ensures.value no_dimension) in
    sym (times-none (dimension_at c.args.closed.model.now c.args.d).global_span_cost
    (length_of (extent_after c.args.d c.args.vehicles.now c.args.next.now c.args.orders.now)) (omega (arith, ints, same, c.if-dimension-eq0.true)))
