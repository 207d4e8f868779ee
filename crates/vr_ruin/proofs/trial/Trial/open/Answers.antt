use Rattle.std.proofs.Common.{◌∙◌, List, [], ap, length, sym, subst}
use Rattle.std.specs.Prelude.{ℕ}
use Rattle.std.proofs.lemmas.List.{length-replicate}
use Rattle.vr_model.specs.tables.Tables.{visits}
use Rattle.vr_rules.specs.Placing.{AreBuilt}
use Rattle.vr_rules.proofs.PlacingLemmas.{AreBuilt-empty}
use Rattle.vr_ruin.specs.Known.{AreKnownRoutes}
use Rattle.vr_ruin.proofs.trial.Trial.open.Goals as goal

pub invariant_of-result : goal.invariant_of-result
invariant_of-result c =
    let model = c.args.lookups.now.closed.model.now in
    record {
      visits_are = c.in_ok-routes.ensures.visits ∙ ap visits (sym c.in_ok-open.ensures);
      built = subst (λ m. AreBuilt m c.in_ok-routes.routes.lists) (sym c.in_ok-open.ensures)
          (subst (AreBuilt model) (sym c.in_ok-routes.ensures.lists) (AreBuilt-empty model));
      known_are = subst (λ m. AreKnownRoutes m c.in_ok-known.known.items) (sym c.in_ok-open.ensures)
          (c.in_ok-known.ensures model (sym c.len.ensures) (sym c.len-2.ensures));
      room_many = ap length c.in_ok-room.ensures ∙ length-replicate {A = List ℕ} (length model.vehicles) []
          ∙ ap (λ m. length m.vehicles) (sym c.in_ok-open.ensures);
      spare_visits = c.in_ok-spare.ensures.visits ∙ ap visits (sym c.in_ok-open.ensures);
      spare_many = ap length c.in_ok-spare.ensures.lists ∙ length-replicate {A = List ℕ} (length model.vehicles) []
          ∙ ap (λ m. length m.vehicles) (sym c.in_ok-open.ensures);
    }
