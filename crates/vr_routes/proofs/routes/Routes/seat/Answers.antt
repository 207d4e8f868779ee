use Rattle.std.proofs.Common.{arith}
use Rattle.vr_model.proofs.tables.Tests.{fails}
use Rattle.vr_model.specs.routes.Routes.{route, is_active}
use Rattle.vr_routes.proofs.TourLemmas.{held_below}
use Rattle.vr_routes.proofs.routes.Routes.seat.Goals as goal

pub returns : goal.returns
returns c = rw (← c.self.view_is) (
    let i = c.self.invariant.tours in
    let past = c.if-node-nodes.false in
    fails (is_active c.self.inside.seating.lists c.args.node) (λ h.
    let low = held_below (route c.self.inside.visits.lists 0) c.self.inside.seating.nodes
    i.each_visit_is_node c.args.node (i.each_entry_is_visit c.args.node h) in
    omega (arith, low, past, c.nodes.ensures)))
