use Rattle.std.proofs.Common.{◌∙◌, ap}
use Rattle.vr_model.specs.routes.Routes.{arcs_of}
use Rattle.vr_guided.specs.Counts.{counted}
use Rattle.vr_guided.specs.Worths.{raised_in_turn}
use Rattle.vr_guided.proofs.SpareLemmas.{spares_more, spares_same}
use Rattle.vr_guided.proofs.penalties.Penalties.raise_vehicle.Goals as goal

pub returns-then-raise_route-clause-spares : goal.returns-then-raise_route-clause-spares
returns-then-raise_route-clause-spares c lists first same spares =
    spares_more c.args.list.now.closed.model.now c.args.greatest.now lists c.args.list.now.vehicle
    first (counted c.args.self.now) (counted c.raise_route.new.self) c.args.known.now c.forget.new.self
    (c.raise_route.ensures.raised ∙ ap (λ xs. raised_in_turn c.args.list.now.closed.model.now c.args.greatest.now
    (counted c.args.self.now) (arcs_of c.args.list.now.closed.model.now c.args.list.now.vehicle xs)) same)
    c.forget.ensures.earlier c.forget.ensures.changes spares

pub returns-else-raise_route-clause-spares : goal.returns-else-raise_route-clause-spares
returns-else-raise_route-clause-spares c lists first same spares =
    spares_same lists first (counted c.args.self.now) (counted c.raise_route.new.self)
    c.args.known.now (c.raise_route.ensures.same c.if-raise_route.false) spares
