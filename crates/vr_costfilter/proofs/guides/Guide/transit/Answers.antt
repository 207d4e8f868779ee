use Rattle.std.proofs.Common.{◌∙◌, arith}
use Rattle.std.proofs.lemmas.Int.{ints}
use Rattle.vr_costfilter.proofs.guides.Guide.transit.Goals as goal

pub transit_by-requires-clause-evaluator : goal.transit_by-requires-clause-evaluator
transit_by-requires-clause-evaluator c =
    let g = c.args.self.now in
    (g.d, g.v, record { dimension = g.sound.dimension; vehicle = g.sound.vehicle; is = g.sound.evaluator_is })

pub returns-clause-value : goal.returns-clause-value
returns-clause-value c =
    let g = c.args.self.now in
    let t = c.transit_by.ensures in
    omega (arith, ints, t.least, t.greatest) ∙ t.value g.d g.v g.sound.evaluator_is
