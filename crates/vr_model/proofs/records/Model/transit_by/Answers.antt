use Rattle.std.proofs.Common.{◌≡◌, ℕ, ap, sym, subst, ◌∙◌, arith}
use Rattle.std.proofs.lemmas.Int.{ints}
use Rattle.vr_model.specs.tables.Tables.{dimension_at, evaluated, evaluator_of, transit}
use Rattle.vr_model.specs.tables.WellFormed.{IsEvaluator, IsIn}
use Rattle.vr_model.proofs.tables.Bounds.{least_transit, greatest_transit, of_evaluator, transit_in_range}
use Rattle.vr_model.proofs.records.Model.transit_by.Goals as goal

value_is : (c : goal.After-transit) (d v : ℕ) → c.args.evaluator.now ≡ evaluator_of (dimension_at c.args.self.now d) v
    → c.transit.result ≡ transit c.args.self.now d v c.args.i c.args.j
value_is c d v is = c.transit.ensures
    ∙ ap (λ evaluator. evaluated c.args.self.now evaluator c.args.i c.args.j) is

in_range : (c : goal.After-transit) → IsIn least_transit greatest_transit c.transit.result
in_range c =
    let d = c.requires.evaluator.0 in
    let v = c.requires.evaluator.1 in
    let h = c.requires.evaluator.2 in
    subst (IsIn least_transit greatest_transit) (sym (value_is c d v h.is))
    (transit_in_range c.args.self.now c.requires.well_formed d v h.dimension h.vehicle c.args.i c.args.j c.requires.origin c.requires.target)

pub transit-requires-clause-evaluator : goal.transit-requires-clause-evaluator
transit-requires-clause-evaluator c =
    let h = c.requires.evaluator.2 in
    subst (IsEvaluator c.args.self.now) (sym h.is)
    (of_evaluator c.args.self.now c.requires.well_formed c.requires.evaluator.0 c.requires.evaluator.1 h.dimension h.vehicle)

pub returns-clause-value : goal.returns-clause-value
returns-clause-value c d v is = let r = in_range c in omega (arith, ints, r.at_least, r.at_most) ∙ value_is c d v is

pub returns-clause-least : goal.returns-clause-least
returns-clause-least c = let r = in_range c in omega (arith, ints, r.at_least, r.at_most)

pub returns-clause-greatest : goal.returns-clause-greatest
returns-clause-greatest c = let r = in_range c in omega (arith, ints, r.at_least, r.at_most)
