use Rattle.std.proofs.Common.{◌≡◌, ap, sym, ◌∙◌, arith}
use Rattle.std.proofs.lemmas.Int.{ints}
use Rattle.vr_model.specs.tables.Tables.{dimension_at, evaluator_of, no_dimension}
use Rattle.vr_model.proofs.records.Model.transit.Goals as goal

is_looked_up : (c : goal.After-evaluator_of-evaluator) → c.evaluator_of-evaluator.result.now ≡ evaluator_of (dimension_at c.args.self.now c.args.d) c.args.v
is_looked_up c = c.evaluator_of-evaluator.ensures ∙ ap (λ dimension. evaluator_of dimension c.args.v) (sym (c.get.ensures.value no_dimension))

pub transit_by-requires-clause-evaluator : goal.transit_by-requires-clause-evaluator
transit_by-requires-clause-evaluator c = (c.args.d, c.args.v, record { dimension = c.requires.dimension; vehicle = c.requires.vehicle; is = is_looked_up c })

pub returns-clause-value : goal.returns-clause-value
returns-clause-value c = let t = c.transit_by.ensures in omega (arith, ints, t.least, t.greatest) ∙ t.value c.args.d c.args.v (is_looked_up c.before)
