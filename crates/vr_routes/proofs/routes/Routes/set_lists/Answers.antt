use Rattle.std.proofs.Common.{◌∙◌, ◌≡◌, length, ap, sym, subst}
use Rattle.std.specs.Prelude.{IsTrue}
use Rattle.vr_model.specs.routes.Routes.{route, holds, is_active}
use Rattle.vr_routes.specs.Tours.{Tours, inactive_of}
use Rattle.vr_routes.proofs.TourLemmas.{held_below, tours_after}
use Rattle.vr_routes.proofs.routes.Routes.set_lists.Goals as goal

pub set_lists-requires : goal.set_lists-requires
set_lists-requires c = record {
  many = subst (λ (t : Tours). length t.lists ≡ length c.args.lists.now) (sym c.self.view_is) c.requires.many;
  nodes = λ node active. held_below (route c.self.inside.visits.lists 0) c.self.inside.seating.nodes c.self.invariant.tours.each_visit_is_node node
      (subst (λ (t : Tours). IsTrue (holds t.visits node)) (sym c.self.view_is) (c.requires.visits node active));
  once = c.requires.once;
}

pub invariant_of-self : goal.invariant_of-self
invariant_of-self c =
    let after = c.set_lists.new.self in
    let lists = c.set_lists.ensures.lists in
    let before = subst (λ (t : Tours). length t.lists ≡ length c.args.lists.now) (sym c.self.view_is) c.requires.many in
    record {
      tours = tours_after c.self.invariant.tours after (sym c.set_lists.ensures.nodes) (ap length lists ∙ sym before)
          (λ node active. subst (λ (t : Tours). IsTrue (holds t.visits node)) (sym c.self.view_is)
          (c.requires.visits node (subst (λ l. IsTrue (is_active l node)) lists active)));
      inactive_ones = c.write_inactive.ensures ∙ ap (λ l. inactive_of l after.lists) c.list.ensures.value;
    }
