use Rattle.std.proofs.Common.{◌≡◌, ◌∙◌, ◌<◌, ℕ, List, length, ap, ap₂, sym, arith, to_z, of_z, w64}
use Rattle.std.proofs.lemmas.Int.{ints}
use Rattle.std.specs.Prelude.{◌*ℤ◌, ℤ, pos, neg_ℤ}
use Rattle.vr_model.specs.tables.Limits.{greatest_coefficient}
use Rattle.vr_model.specs.tables.Numbers.{horizon, number_at}
use Rattle.vr_model.specs.tables.Tables.{dimension_at, no_dimension}
use Rattle.vr_model.specs.tables.WellFormed.{IsIn}
use Rattle.vr_model.specs.declared.records.Dimension.{Dimension}
use Rattle.vr_model.specs.declared.records.Model.{Model}
use Rattle.vr_plan.specs.Bounds.{cumul_cost}
use Rattle.vr_plan.proofs.BoundLemmas.{read-around}
use Rattle.vr_plan.proofs.ExtentLemmas.{times-none}
use Rattle.vr_routes.specs.Pieces.{joined, no_part, part_at}
use Rattle.vr_earliest.specs.Earlies.{early_at, IsEarly}
use Rattle.vr_earliest.specs.declared.earlies.Early.{Early}
use Rattle.vr_earliest.specs.Ways.{least_span}
use Rattle.vr_costfilter.specs.EarlyChanges.{IsEarlyOf}
use Rattle.vr_costfilter.specs.declared.early_change.EarlyChange.{EarlyChange}
use Rattle.vr_costfilter.proofs.schedule_costs.least_of_span.Goals as goal

-- what is read is the coefficient of the vehicle
read-coefficient : (model : Model) (d v w : ℕ) {dimension : Dimension} {x : ℤ} → dimension_at model d ≡ dimension
    → number_at dimension.span_costs w ≡ x → w ≡ v → x ≡ number_at (dimension_at model d).span_costs v
read-coefficient model d v w at is same = sym is ∙ ap (λ (y : Dimension). number_at y.span_costs w) (sym at)
    ∙ ap (number_at (dimension_at model d).span_costs) same

module _ (early : EarlyChange) (d k : ℕ) (dimension : d < length early.model.now.dimensions) (part : k < length early.change.now) where
  -- it has one
  has-one : (part_at early.change.now k).vehicle < length (dimension_at early.model.now d).span_costs
  has-one =
      let known : (part_at early.change.now k).vehicle < length early.model.now.vehicles = early.sound.known k no_part part in
      let of_dimension = early.sound.well_formed.each_dimension d no_dimension dimension in
      omega (arith, known, of_dimension.span_cost_of_each_vehicle)

  in-range : IsIn (pos 0) greatest_coefficient (number_at (dimension_at early.model.now d).span_costs (part_at early.change.now k).vehicle)
  in-range = (early.sound.well_formed.each_dimension d no_dimension dimension).span_costs_in_range (part_at early.change.now k).vehicle (pos 0) has-one

  module _ (some : number_at (dimension_at early.model.now d).span_costs (part_at early.change.now k).vehicle ≡ pos 0 → ⊥) where
    -- where it is paid, what is told of the list is in its range
    span-range : IsIn (neg_ℤ horizon) horizon (early_at early.earlies.now d k).span
    span-range = (early.sound.range d dimension (λ unpaid. some (unpaid.spans (part_at early.change.now k).vehicle has-one)) k part).span

    -- and is so
    told-of : (lists : List (List ℕ)) → IsEarlyOf early lists
        → IsEarly early.model.now d (part_at early.change.now k).vehicle (joined lists (part_at early.change.now k).pieces) (early_at early.earlies.now d k)
    told-of lists are = are.earlies.each d dimension (λ unpaid. some (unpaid.spans (part_at early.change.now k).vehicle has-one)) k part

pub returns-then-coefficient-eq0-clause-value : goal.returns-then-coefficient-eq0-clause-value
returns-then-coefficient-eq0-clause-value c lists are =
    let m = c.args.early.now.model.now in
    let part = part_at c.args.early.now.change.now c.args.k in
    let is = read-coefficient m c.args.d part.vehicle c.vehicle-v.result (c.get.ensures.value no_dimension)
    (c.get-coefficient.ensures.value (pos 0)) c.vehicle-v.ensures.value in
    sym (times-none (number_at (dimension_at m c.args.d).span_costs part.vehicle)
    (least_span m c.args.d part.vehicle (joined lists part.pieces)) (omega (arith, ints, is, c.if-coefficient-eq0.true)))

pub at-requires-clause-dimension : goal.at-requires-clause-dimension
at-requires-clause-dimension c =
    let few = c.args.early.now.sound.well_formed.number_of_dimensions in
    let low = c.requires.dimension in
    omega (arith, few, low)

pub at-requires-clause-part : goal.at-requires-clause-part
at-requires-clause-part c =
    let few = c.args.early.now.sound.few in
    let low = c.requires.part in
    omega (arith, few, low)

pub times-requires-clause-coefficient : goal.times-requires-clause-coefficient
times-requires-clause-coefficient c =
    let is = read-coefficient c.args.early.now.model.now c.args.d (part_at c.args.early.now.change.now c.args.k).vehicle
    c.vehicle-v.result (c.get.ensures.value no_dimension) (c.get-coefficient.ensures.value (pos 0)) c.vehicle-v.ensures.value in
    let r = in-range c.args.early.now c.args.d c.args.k c.requires.dimension c.requires.part in
    record { at_least = omega (arith, ints, is, r.at_least, r.at_most); at_most = omega (arith, ints, is, r.at_least, r.at_most) }

pub times-requires-clause-range : goal.times-requires-clause-range
times-requires-clause-range c =
    let is = read-coefficient c.args.early.now.model.now c.args.d (part_at c.args.early.now.change.now c.args.k).vehicle
    c.vehicle-v.result (c.get.ensures.value no_dimension) (c.get-coefficient.ensures.value (pos 0)) c.vehicle-v.ensures.value in
    let s = span-range c.args.early.now c.args.d c.args.k c.requires.dimension c.requires.part
    (λ none. absurd (omega (arith, ints, is, none, c.if-coefficient-eq0.false))) in
    let at = ap (λ (e : Early). e.span) c.at.ensures in
    record { low = omega (arith, ints, at, s.at_least, s.at_most); high = omega (arith, ints, at, s.at_least, s.at_most) }

pub returns-clause-value : goal.returns-clause-value
returns-clause-value c lists are =
    let early = c.args.early.now in
    let is = read-coefficient early.model.now c.args.d (part_at early.change.now c.args.k).vehicle c.vehicle-v.result
    (c.get.ensures.value no_dimension) (c.get-coefficient.ensures.value (pos 0)) c.vehicle-v.ensures.value in
    let r = in-range early c.args.d c.args.k c.requires.dimension c.requires.part in
    let told = told-of early c.args.d c.args.k c.requires.dimension c.requires.part
    (λ none. absurd (omega (arith, ints, is, none, c.if-coefficient-eq0.false))) lists are in
    let at = ap (λ (e : Early). e.span) c.at.ensures in
    let s = told.span_range in
    let coefficient : to_z w64 (of_z w64 c.get-coefficient.result.now)
    ≡ number_at (dimension_at early.model.now c.args.d).span_costs (part_at early.change.now c.args.k).vehicle =
    omega (arith, ints, is, r.at_least, r.at_most) in
    let span : to_z w64 (of_z w64 c.at.result.span) ≡ c.at.result.span = omega (arith, ints, at, s.at_least, s.at_most) in
    read-around c.times.result cumul_cost c.times.ensures.range (omega arith) ∙ c.times.ensures.value ∙ ap₂ (λ x y. x *ℤ y) coefficient (span ∙ at ∙ told.span)
