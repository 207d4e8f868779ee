use Rattle.std.proofs.Common.{◌≡◌, ◌-◌, w64, to_z, of_z, sym, subst, arith}
use Rattle.std.proofs.lemmas.Int.{ints}
use Rattle.vr_model.specs.declared.records.Model.{Model}
use Rattle.vr_bounds.specs.declared.puts.Bound.{Bound}
use Rattle.vr_bounds.specs.Kept.{ArePuts}
use Rattle.vr_bounds.proofs.KeptLemmas.{renewed}
use Rattle.vr_bounds.proofs.puts.Puts.least_by.Goals as goal

pub returns-clause-puts : goal.returns-clause-puts
returns-clause-puts c =
    let model : Model = c.args.driver.closed.model.now in
    let puts = c.args.self.now in
    let past = c.requires.puts.past c.args.node c.requires.node in
    let least = to_z w64 (of_z w64 c.lowered-least.result) in
    let read : least ≡ c.lowered-least.result = omega (arith, ints, c.lowered-least.type_inv) in
    let bound : Bound = record { least = least; stamp = c.next_age-stamp.result - 1; walked = c.args.known.walked } in
    subst (λ bounds. ArePuts model c.args.driver.vehicle (record { row = puts.row; ages = puts.ages; clock = puts.clock; bounds = bounds })) (sym c.set.ensures)
    (renewed model c.args.driver.vehicle puts c.requires.puts c.args.node c.requires.node bound (omega (arith, past, c.next_age-stamp.ensures))
    (λ place low. (let is = c.lowered-least.ensures place low in omega (arith, ints, read, is))))
