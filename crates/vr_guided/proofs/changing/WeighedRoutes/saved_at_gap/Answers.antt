use Rattle.std.proofs.Common.{◌≡◌, to_z, of_z, arith}
use Rattle.std.specs.Int.{w128}
use Rattle.std.proofs.lemmas.Int.{ints}
use Rattle.vr_guided.specs.Counts.{counted}
use Rattle.vr_guided.proofs.ListLemmas.{list_of_each}
use Rattle.vr_guided.proofs.RunLemmas.{cut_most}
use Rattle.vr_guided.proofs.changing.WeighedRoutes.saved_at_gap.Goals as goal

pub returns-clause-most : goal.returns-clause-most
returns-clause-most c = λ place.
    let here = c.args.self.now in
    let many = list_of_each here.weights.closed.model.now here.routes.now.lists here.valid in
    let low = c.requires in
    let o = c.old_stretch.ensures in
    let same : to_z w128 (of_z w128 c.old_stretch.result) ≡ c.old_stretch.result = omega (arith, ints, o.low, o.high) in
    cut_most here.weights.closed.model.now here.weights.closed.well_formed (counted here.weights.penalties.now)
    here.weights.few here.routes.now.lists here.valid c.args.v (omega (arith, many, low)) c.args.t _
    (λ next others e. let value = o.total next others e in omega (arith, ints, same, value))
