use Rattle.std.proofs.Common.{◌≡◌, ◌∙◌, ℕ, List, length, sym, ap, subst}
use Rattle.std.specs.Prelude.{IsTrue}
use Rattle.vr_model.specs.routes.Routes.{route, holds}
use Rattle.vr_routes.specs.Tours.{Tours}
use Rattle.vr_routes.proofs.TourLemmas.{held_below}
use Rattle.vr_routes.proofs.routes.Routes.assign.Goals as goal

pub assign-requires : goal.assign-requires
assign-requires c =
    let mine : List ℕ = route c.self.inside.visits.lists 0 in
    let same : mine ≡ route c.other.inside.visits.lists 0 = ap (λ (t : Tours). t.visits) c.self.view_is
    ∙ c.requires.visits ∙ sym (ap (λ (t : Tours). t.visits) c.other.view_is) in
    record {
      many = ap (λ (t : Tours). length t.lists) c.self.view_is ∙ c.requires.many ∙ sym (ap (λ (t : Tours). length t.lists) c.other.view_is);
      nodes = λ node active. held_below mine c.self.inside.seating.nodes c.self.invariant.tours.each_visit_is_node node
          (subst (λ l. IsTrue (holds l node)) (sym same) (c.other.invariant.tours.each_entry_is_visit node active));
      once = c.know_once.ensures;
    }
