use Rattle.std.proofs.Common.{arith}
use Rattle.vr_model.proofs.tables.Tests.{fails}
use Rattle.vr_model.specs.routes.Routes.{route, holds}
use Rattle.vr_routes.proofs.TourLemmas.{held_below}
use Rattle.vr_routes.proofs.indices.Indices.index.Goals as goal

pub returns : goal.returns
returns c = rw (← c.self.view_is) (
    let past = c.if-node-nodes.false in
    fails (holds (route c.self.inside.visits.lists 0) c.args.node) (λ h.
    let low = held_below (route c.self.inside.visits.lists 0) c.self.inside.visits.nodes c.self.invariant.each_visit_is_node c.args.node h in
    omega (arith, low, past, c.nodes.ensures)))
