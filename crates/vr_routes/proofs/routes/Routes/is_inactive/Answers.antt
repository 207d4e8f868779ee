use Rattle.std.proofs.Common.{◌≡◌, ◌&&◌, not, false, arith, ap, sym}
use Rattle.vr_model.proofs.tables.Tests.{fails}
use Rattle.vr_model.specs.routes.Routes.{route, holds, is_active}
use Rattle.vr_routes.proofs.TourLemmas.{held_below}
use Rattle.vr_routes.proofs.routes.Routes.is_inactive.Goals as goal

pub returns : goal.returns
returns c = rw (← c.self.view_is) (
    let i = c.self.invariant.tours in
    let past = c.if-node-nodes.false in
    let none : holds (route c.self.inside.visits.lists 0) c.args.node ≡ false = fails (holds (route c.self.inside.visits.lists 0) c.args.node) (λ h.
    let low = held_below (route c.self.inside.visits.lists 0) c.self.inside.seating.nodes i.each_visit_is_node c.args.node h in
    omega (arith, low, past, c.nodes.ensures)) in
    sym (ap (λ t. t && not (is_active c.self.inside.seating.lists c.args.node)) none))
