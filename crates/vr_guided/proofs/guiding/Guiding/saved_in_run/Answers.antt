use Rattle.std.proofs.Common.{◌≡◌, to_z, of_z, sym, subst, arith}
use Rattle.std.specs.Int.{w128}
use Rattle.std.proofs.lemmas.Int.{ints}
use Rattle.vr_guided.specs.Counts.{counted}
use Rattle.vr_guided.specs.Savings.{SavesAtMost}
use Rattle.vr_guided.proofs.guiding.Guiding.saved_in_run.Goals as goal

pub returns-clause-most : goal.returns-clause-most
returns-clause-most c =
    let weights = c.args.self.now.weights in
    let s = c.saved_in_run.ensures in
    let same : to_z w128 (of_z w128 c.saved_in_run.result) ≡ c.saved_in_run.result = omega (arith, ints, s.low, s.high) in
    subst (SavesAtMost weights.closed.model.now (counted weights.penalties.now) c.args.routes.now.lists c.args.mv) (sym same) s.most
