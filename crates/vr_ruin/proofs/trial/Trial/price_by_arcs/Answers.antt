use Rattle.std.proofs.Common.{arith}
use Rattle.std.proofs.lemmas.Int.{ints}
use Rattle.vr_ruin.proofs.CheapestLemmas.{price-is}
use Rattle.vr_ruin.proofs.TimelessLemmas.{increase-in_range}
use Rattle.vr_ruin.proofs.trial.Trial.price_by_arcs.Goals as goal

pub overflow_add-result : goal.overflow_add-result
overflow_add-result c =
    let t = c.args.self.now in
    let range = increase-in_range t.model c.know.ensures.well_formed t.lists c.know.ensures.built c.args.offer c.requires.offer c.requires.adds in
    omega (arith, ints, range.0, range.1, c.fixed_beside.ensures.low, c.fixed_beside.ensures.high)

pub returns-clause-price : goal.returns-clause-price
returns-clause-price c =
    let t = c.args.self.now in
    let range = increase-in_range t.model c.know.ensures.well_formed t.lists c.know.ensures.built c.args.offer c.requires.offer c.requires.adds in
    let sum = price-is t.model t.lists c.requires.timeless c.args.offer c.requires.offer.vehicle c.requires.adds in
    omega (arith, ints, range.0, range.1, c.fixed_beside.ensures.low, c.fixed_beside.ensures.high, c.fixed_beside.ensures.value, sum)

pub returns-clause-price_range : goal.returns-clause-price_range
returns-clause-price_range c =
    let t = c.args.self.now in
    let range = increase-in_range t.model c.know.ensures.well_formed t.lists c.know.ensures.built c.args.offer c.requires.offer c.requires.adds in
    record {
      low = omega (arith, ints, range.0, range.1, c.fixed_beside.ensures.low, c.fixed_beside.ensures.high);
      high = omega (arith, ints, range.0, range.1, c.fixed_beside.ensures.low, c.fixed_beside.ensures.high);
    }
