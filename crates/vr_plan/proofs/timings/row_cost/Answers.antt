use Rattle.std.proofs.Common.{◌≡◌, ◌∙◌, ap, sym, subst, arith, to_z, of_z, w64}
use Rattle.std.proofs.lemmas.Int.{ints}
use Rattle.std.specs.Prelude.{◌≤ℤ◌, ◌*ℤ◌, ◌-ℤ◌, pos}
use Rattle.std.specs.Int.{int_max}
use Rattle.std.specs.Option.{option_copied}
use Rattle.vr_model.specs.routes.Costs.{row_cost, soft_cost}
use Rattle.vr_model.specs.tables.WellFormed.{IsStopRow, IsSoft, WherePresent}
use Rattle.vr_plan.specs.Bounds.{cumul_cost, IsAround}
use Rattle.vr_plan.proofs.BoundLemmas.{read-around, max-around}
use Rattle.vr_plan.proofs.timings.row_cost.Goals as goal

-- the soft bound of the row
soft_of : (c : goal.After-struct_told-2-1) → IsSoft c.in-Some-soft.soft
soft_of c =
    let row = subst (λ o. WherePresent IsStopRow (option_copied o)) c.in-Some.is c.requires.valid in
    subst (WherePresent IsSoft) c.in-Some-soft.is row.soft_in_range

pub times-requires-clause-coefficient : goal.times-requires-clause-coefficient
times-requires-clause-coefficient c =
    let a = (soft_of c).coefficient_in_range in
    record { at_least = omega (arith, ints, a.at_least, a.at_most); at_most = omega (arith, ints, a.at_least, a.at_most) }

-- how far the cumul is above the bound
above : (c : goal.After-struct_told-2-1)
    → (c.max.result ≡ int_max (pos 0) (c.args.x -ℤ c.in-Some-soft.soft.bound)) × IsAround 68719476736 (int_max (pos 0) (c.args.x -ℤ c.in-Some-soft.soft.bound))
above c =
    let x = c.requires.range in
    let b = (soft_of c).bound_in_range in
    let y : IsAround 68719476736 (c.args.x -ℤ c.in-Some-soft.soft.bound) = record {
      low = omega (arith, ints, x.at_least, b.at_most);
      high = omega (arith, ints, x.at_most, b.at_least);
    } in
    let e : to_z w64 (of_z w64 (to_z w64 (of_z w64 c.args.x) -ℤ to_z w64 (of_z w64 c.in-Some-soft.soft.bound))) ≡ c.args.x -ℤ c.in-Some-soft.soft.bound =
    omega (arith, ints, x.at_least, x.at_most, b.at_least, b.at_most) in
    (c.max.ensures.value ∙ ap (int_max (pos 0)) e, max-around (c.args.x -ℤ c.in-Some-soft.soft.bound) 68719476736 y)

pub times-requires-clause-range : goal.times-requires-clause-range
times-requires-clause-range c =
    let a = above c in
    let v = a.0 in
    let r = a.1 in
    record { low = omega (arith, ints, v, r.low, r.high); high = omega (arith, ints, v, r.low, r.high) }

pub returns-clause-value : goal.returns-clause-value
returns-clause-value c =
    let row = subst (λ o. WherePresent IsStopRow (option_copied o)) c.in-Some.is c.requires.valid in
    let soft = subst (WherePresent IsSoft) c.in-Some-soft.is row.soft_in_range in
    let s = c.in-Some-soft.soft in
    let x = c.requires.range in
    let b = soft.bound_in_range in
    let a = soft.coefficient_in_range in
    let y : IsAround 68719476736 (c.args.x -ℤ s.bound) = record {
      low = omega (arith, ints, x.at_least, b.at_most);
      high = omega (arith, ints, x.at_most, b.at_least);
    } in
    let e : to_z w64 (of_z w64 (to_z w64 (of_z w64 c.args.x) -ℤ to_z w64 (of_z w64 s.bound))) ≡ c.args.x -ℤ s.bound =
    omega (arith, ints, x.at_least, x.at_most, b.at_least, b.at_most) in
    let v = c.max.ensures.value ∙ ap (int_max (pos 0)) e in
    let r = max-around (c.args.x -ℤ s.bound) 68719476736 y in
    let max_read : to_z w64 (of_z w64 c.max.result) ≡ int_max (pos 0) (c.args.x -ℤ s.bound) = omega (arith, ints, v, r.low, r.high) in
    let coefficient_read : to_z w64 (of_z w64 s.coefficient) ≡ s.coefficient = omega (arith, ints, a.at_least, a.at_most) in
    read-around c.times.result cumul_cost c.times.ensures.range (omega arith) ∙ c.times.ensures.value
    ∙ ap (λ z. z *ℤ to_z w64 (of_z w64 c.max.result)) coefficient_read ∙ ap (λ z. s.coefficient *ℤ z) max_read
    ∙ sym (ap (λ o. row_cost (option_copied o) c.args.x) c.in-Some.is ∙ ap (λ o. soft_cost o c.args.x) c.in-Some-soft.is)

pub returns-clause-low : goal.returns-clause-low
returns-clause-low c =
    let v = c.max.ensures.self_bound in
    let fits = c.max.type_inv in
    let read : pos 0 ≤ℤ to_z w64 (of_z w64 c.max.result) = omega (arith, ints, v, fits) in
    let s = c.times.ensures.sign read in
    let r = c.times.ensures.range in
    omega (arith, ints, s, r.low, r.high)
