use Rattle.std.proofs.Common.{ℕ, List, subst, arith}
use Rattle.std.proofs.lemmas.Int.{ints}
use Rattle.vr_model.specs.declared.records.Model.{Model}
use Rattle.vr_bounds.specs.Kept.{IsUpTo}
use Rattle.vr_bounds.proofs.puts.Puts.reach.Goals as goal

pub returns-then-least_by-bound-clause-no_less : goal.returns-then-least_by-bound-clause-no_less
returns-then-least_by-bound-clause-no_less c _ place low =
    let least = c.least_by.ensures.least place low in
    omega (arith, ints, least, c.if-least_by-bound.true, c.least_by.type_inv, c.ranges.bound)

pub returns-clause-no_less : goal.returns-clause-no_less
returns-clause-no_less c enough place low =
    let model : Model = c.args.driver.closed.model.now in
    let all = subst (λ (row : List ℕ). IsUpTo model c.args.driver.vehicle row c.args.node c.least_by-2.result)
    c.least_by.ensures.row c.least_by-2.ensures.least in
    let least = all place low in
    omega (arith, ints, least, enough, c.least_by-2.type_inv, c.ranges.bound)
