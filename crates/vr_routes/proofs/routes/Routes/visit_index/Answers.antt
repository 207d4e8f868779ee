use Rattle.std.proofs.Common.{◌<◌, sym, subst}
use Rattle.std.specs.Prelude.{IsTrue}
use Rattle.vr_model.specs.routes.Routes.{route, is_active}
use Rattle.vr_routes.specs.Tours.{Tours}
use Rattle.vr_routes.proofs.TourLemmas.{held_below}
use Rattle.vr_routes.proofs.routes.Routes.visit_index.Goals as goal

pub seat-requires : goal.seat-requires
seat-requires c =
    let i = c.self.invariant.tours in
    let active : IsTrue (is_active c.self.inside.seating.lists c.args.node) = subst (λ (t : Tours). IsTrue (is_active t.lists c.args.node))
    (sym c.self.view_is) c.requires.active in
    let low : c.args.node < c.self.inside.seating.nodes = held_below (route c.self.inside.visits.lists 0)
    c.self.inside.seating.nodes i.each_visit_is_node c.args.node (i.each_entry_is_visit c.args.node active) in
    record { node = subst (λ n. c.args.node < n) (sym i.same_nodes) low }
