use Rattle.std.proofs.Common.{◌≡◌, ◌∙◌, ap, arith, to_z, of_z, w64}
use Rattle.std.proofs.lemmas.Int.{ints}
use Rattle.std.specs.Prelude.{◌*ℤ◌, ◌-ℤ◌, pos}
use Rattle.vr_model.specs.tables.Numbers.{number_at}
use Rattle.vr_plan.specs.Bounds.{cumul_cost}
use Rattle.vr_plan.proofs.BoundLemmas.{read-around}
use Rattle.vr_plan.proofs.timings.span_cost.Goals as goal

pub times-requires-clause-range : goal.times-requires-clause-range
times-requires-clause-range c =
    let a = c.requires.start in
    let b = c.requires.last in
    record { low = omega (arith, ints, a.at_least, a.at_most, b.at_least, b.at_most); high = omega (arith, ints, a.at_least, a.at_most, b.at_least, b.at_most) }

pub returns-clause-value : goal.returns-clause-value
returns-clause-value c =
    let a = c.requires.start in
    let b = c.requires.last in
    let f = c.requires.coefficients c.args.v (pos 0) c.requires.vehicle in
    let g = c.get.ensures.value (pos 0) in
    let t = c.args.timing in
    let span : to_z w64 (of_z w64 (to_z w64 (of_z w64 t.last) -ℤ to_z w64 (of_z w64 t.start))) ≡ t.last -ℤ t.start =
    omega (arith, ints, a.at_least, a.at_most, b.at_least, b.at_most) in
    let coefficient : to_z w64 (of_z w64 c.get.result.now) ≡ number_at c.args.dimension.now.span_costs c.args.v =
    omega (arith, ints, f.at_least, f.at_most, g) in
    read-around c.times.result cumul_cost c.times.ensures.range (omega arith) ∙ c.times.ensures.value
    ∙ ap (λ z. z *ℤ to_z w64 (of_z w64 (to_z w64 (of_z w64 t.last) -ℤ to_z w64 (of_z w64 t.start)))) coefficient
    ∙ ap (λ z. number_at c.args.dimension.now.span_costs c.args.v *ℤ z) span
