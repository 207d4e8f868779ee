use Rattle.std.proofs.Common.{arith}
use Rattle.std.proofs.lemmas.Int.{ints}
use Rattle.vr_tabu.proofs.CandidateLemmas.{both_bounded}
use Rattle.vr_tabu.proofs.rounds.Round.aspiration.Goals as goal

pub overflow_sub-result : goal.overflow_sub-result
overflow_sub-result c =
    let known = c.args.self.now.known in
    let fit = both_bounded c.args.self.now.model.now c.args.self.now.routes.now c.args.self.now.state.now known in
    omega (arith, ints, fit.0.least, fit.0.greatest, fit.1.least, fit.1.greatest, known.costs, known.best.costs)

pub returns : goal.returns
returns c =
    let known = c.args.self.now.known in
    let fit = both_bounded c.args.self.now.model.now c.args.self.now.routes.now c.args.self.now.state.now known in
    omega (arith, ints, fit.0.least, fit.0.greatest, fit.1.least, fit.1.greatest, known.costs, known.best.costs)
