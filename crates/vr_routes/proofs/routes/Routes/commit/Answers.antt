use Rattle.std.proofs.Common.{◌∙◌, length, ap, sym, subst}
use Rattle.std.specs.Prelude.{IsTrue}
use Rattle.vr_model.specs.routes.Routes.{route, is_active}
use Rattle.vr_routes.specs.Seats.{IsOnce}
use Rattle.vr_routes.specs.Tours.{Tours, inactive_of}
use Rattle.vr_routes.specs.Changes.{IsMadeOn}
use Rattle.vr_routes.proofs.TourLemmas.{held_below, tours_after}
use Rattle.vr_routes.proofs.CommitLemmas.{as_many_lists, once_after, entry_after}
use Rattle.vr_routes.proofs.routes.Routes.commit.Goals as goal

pub rebuild-requires : goal.rebuild-requires
rebuild-requires c =
    let tours : Tours = record { visits = route c.self.inside.visits.lists 0; lists = c.self.inside.seating.lists } in
    let parts = c.args.change.now in
    let made : IsMadeOn tours parts = subst (λ t. IsMadeOn t parts) (sym c.self.view_is) c.requires.made in
    let once : IsOnce tours.lists = c.know_once.ensures in
    let before = c.self.invariant.tours in
    record {
      parts_are = made.makes.parts_are;
      once = once_after tours parts made once;
      have = λ node active. held_below tours.visits c.self.inside.seating.nodes before.each_visit_is_node
          node (entry_after tours parts made once before.each_entry_is_visit node active);
    }

pub invariant_of-self : goal.invariant_of-self
invariant_of-self c =
    let tours : Tours = record { visits = route c.self.inside.visits.lists 0; lists = c.self.inside.seating.lists } in
    let parts = c.args.change.now in
    let made : IsMadeOn tours parts = subst (λ t. IsMadeOn t parts) (sym c.self.view_is) c.requires.made in
    let before = c.self.invariant.tours in
    let after = c.rebuild.new.seating in
    let lists = c.rebuild.ensures.lists in
    record {
      tours = tours_after before after (sym c.rebuild.ensures.nodes) (ap length lists ∙ as_many_lists tours.lists parts)
          (λ node active. entry_after tours parts made c.know_once.ensures
          before.each_entry_is_visit node (subst (λ l. IsTrue (is_active l node)) lists active));
      inactive_ones = c.write_inactive.ensures ∙ ap (λ l. inactive_of l after.lists) c.list.ensures.value;
    }
