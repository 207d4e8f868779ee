use Rattle.std.proofs.Common.{◌≡◌, ◌∙◌, ap, ap₂, sym, arith, to_z, of_z, w64}
use Rattle.std.proofs.lemmas.Int.{ints, int_max_is}
use Rattle.std.specs.Prelude.{◌-ℤ◌, ◌*ℤ◌}
use Rattle.std.specs.Int.{int_max}
use Rattle.vr_model.specs.tables.Tables.{dimension_at, no_dimension}
use Rattle.vr_plan.specs.Bounds.{cumul_cost}
use Rattle.vr_plan.proofs.BoundLemmas.{read-around}
use Rattle.vr_plan.proofs.ExtentLemmas.{times-none}
use Rattle.vr_costfilter.specs.declared.spreads.Spread.{Spread}
use Rattle.vr_costfilter.specs.GlobalCosts.{Pays}
use Rattle.vr_costfilter.specs.Spreads.{spread_after}
use Rattle.vr_costfilter.proofs.SpreadLemmas.{read-span}
use Rattle.vr_costfilter.proofs.spreads.least_of_global_span.Goals as goal

pub times-requires-clause-coefficient : goal.times-requires-clause-coefficient
times-requires-clause-coefficient c =
    let is = ap (λ x. x.global_span_cost) (c.get.ensures.value no_dimension) in
    let r = (c.args.early.now.sound.well_formed.each_dimension c.args.d no_dimension c.requires.dimension).global_span_cost_in_range in
    record { at_least = omega (arith, ints, is, r.at_least, r.at_most); at_most = omega (arith, ints, is, r.at_least, r.at_most) }

pub times-requires-clause-range : goal.times-requires-clause-range
times-requires-clause-range c =
    let s = c.spread_after-spread.result in
    let r = c.spread_after-spread.ensures.range in
    let value = c.max.ensures.value in
    let m = int_max_is (s.last -ℤ s.start) s.span in
    let last = r.last in
    let start = r.start in
    let span = r.span in
    let less : to_z w64 (of_z w64 (to_z w64 (of_z w64 s.last) -ℤ to_z w64 (of_z w64 s.start))) ≡ s.last -ℤ s.start =
    omega (arith, ints, last.at_least, last.at_most, start.at_least, start.at_most) in
    let is : c.max.result ≡ int_max (s.last -ℤ s.start) s.span = value ∙ ap₂ (λ x y. int_max x y) less (read-span s.span span) in
    record {
      low = omega (arith, ints, is, m, c.max.type_inv, last.at_least, last.at_most, start.at_least, start.at_most, span.at_least, span.at_most);
      high = omega (arith, ints, is, m, c.max.type_inv, last.at_least, last.at_most, start.at_least, start.at_most, span.at_least, span.at_most);
    }

pub returns-then-coefficient-eq0-clause-value : goal.returns-then-coefficient-eq0-clause-value
returns-then-coefficient-eq0-clause-value c lists are orders =
    let s = spread_after c.args.early.now.model.now lists c.args.early.now.change.now c.args.d in
    let is = ap (λ x. x.global_span_cost) (c.get.ensures.value no_dimension) in
    sym (times-none (dimension_at c.args.early.now.model.now c.args.d).global_span_cost
    (int_max (s.last -ℤ s.start) s.span) (omega (arith, ints, is, c.if-coefficient-eq0.true)))

pub returns-clause-value : goal.returns-clause-value
returns-clause-value c lists are orders =
    let model = c.args.early.now.model.now in
    let d = c.args.d in
    let s = c.spread_after-spread.result in
    let e = c.spread_after-spread.ensures in
    let last = e.range.last in
    let start = e.range.start in
    let less : to_z w64 (of_z w64 (to_z w64 (of_z w64 s.last) -ℤ to_z w64 (of_z w64 s.start))) ≡ s.last -ℤ s.start =
    omega (arith, ints, last.at_least, last.at_most, start.at_least, start.at_most) in
    let is : c.max.result ≡ int_max (s.last -ℤ s.start) s.span = c.max.ensures.value ∙ ap₂ (λ x y. int_max x y) less (read-span s.span e.range.span) in
    let max : to_z w64 (of_z w64 c.max.result) ≡ c.max.result = omega (arith, ints, c.max.type_inv) in
    let same = ap (λ x. x.global_span_cost) (c.get.ensures.value no_dimension) in
    let pays : Pays model d = λ none. absurd (omega (arith, ints, same, c.if-coefficient-eq0.false, none)) in
    let r = (c.args.early.now.sound.well_formed.each_dimension d no_dimension c.requires.dimension).global_span_cost_in_range in
    let coefficient : to_z w64 (of_z w64 c.get.result.now.global_span_cost) ≡ (dimension_at model d).global_span_cost =
    omega (arith, ints, same, r.at_least, r.at_most) in
    read-around c.times.result cumul_cost c.times.ensures.range (omega arith) ∙ c.times.ensures.value
    ∙ ap₂ (λ x y. x *ℤ y) coefficient (max ∙ is ∙ ap (λ (t : Spread). int_max (t.last -ℤ t.start) t.span) (e.value lists are (orders pays)))

pub invariant_of-paid : goal.invariant_of-paid
invariant_of-paid c =
    let is = ap (λ x. x.global_span_cost) (c.get.ensures.value no_dimension) in
    record { sound = record { dimension = c.requires.dimension; pays = λ none. absurd (omega (arith, ints, is, c.if-coefficient-eq0.false, none)) } }

pub spread_after-spread-requires : goal.spread_after-spread-requires
spread_after-spread-requires c =
    let is = ap (λ x. x.global_span_cost) (c.get.ensures.value no_dimension) in
    c.requires.orders (λ none. absurd (omega (arith, ints, is, c.if-coefficient-eq0.false, none)))
