use Rattle.std.proofs.Common.{◌∙◌, arith}
use Rattle.std.proofs.lemmas.Int.{ints}
use Rattle.vr_reach.proofs.run_walks.RunLine.transit.Goals as goal

pub transit_by-requires-clause-evaluator : goal.transit_by-requires-clause-evaluator
transit_by-requires-clause-evaluator c =
    let line = c.args.self.now in
    (line.of.d, line.of.v, record { dimension = line.of.dimension; vehicle = line.of.vehicle; is = line.evaluator_is })

pub returns-clause-value : goal.returns-clause-value
returns-clause-value c =
    let line = c.args.self.now in
    let t = c.transit_by.ensures in
    omega (arith, ints, t.least, t.greatest) ∙ t.value line.of.d line.of.v line.evaluator_is
