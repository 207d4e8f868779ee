use Rattle.std.proofs.Common.{◌∙◌, ◌≤◌, refl, ap, ap₂, sym, subst, length, set}
use Rattle.std.specs.Prelude.{IsTrue, None}
use Rattle.std.specs.List.{list_all}
use Rattle.vr_model.specs.tables.Tables.{is_visit, visits}
use Rattle.vr_model.specs.routes.Routes.{is_distinct}
use Rattle.vr_rules.proofs.PlacingLemmas.{built-distinct, built-visits}
use Rattle.vr_ruin.specs.Known.{AreKnownRoutes, IsKnownRoute}
use Rattle.vr_ruin.proofs.KnownLemmas.{known-set}
use Rattle.std.proofs.lemmas.Result.{IfOk-weaker}
use Rattle.vr_model.specs.routes.Routes.{route}
use Rattle.vr_rules.specs.Placing.{AreBuilt}
use Rattle.vr_ruin.specs.Placings.{best_of, no_more_than, placings_of, MayHold}
use Rattle.vr_ruin.proofs.TimelessLemmas.{best-adds, best-vehicle}
use Rattle.vr_ruin.proofs.TrialLemmas.{best_is_offer, may_hold}
use Rattle.vr_ruin.proofs.trial.Trial.offer_within.Goals as goal

pub best-requires-clause-may : goal.best-requires-clause-may
best-requires-clause-may c =
    let t = c.args.self.now in
    let list = c.list-nodes.ensures.value ∙ ap (λ t. route t.lists c.args.v) c.self.view_is in
    subst (λ m. MayHold m c.list-nodes.result.now c.args.item) (sym (ap (λ t. t.model) c.self.view_is))
    (subst (λ l. MayHold t.model l c.args.item) (sym list)
    (may_hold t.model t.lists c.args.v c.args.item (subst (λ t. AreBuilt t.model t.lists) c.self.view_is c.self.invariant.built)
    (subst (λ l. length l ≤ 1000) list c.list-nodes.ensures.few) c.requires.item c.requires.inactive))

pub returns-clause-offer : goal.returns-clause-offer
returns-clause-offer c =
    let t = c.args.self.now in
    let list = c.list-nodes.ensures.value ∙ ap (λ t. route t.lists c.args.v) c.self.view_is in
    let places = placings_of (route t.lists c.args.v) c.args.item in
    let best = best_of t.model c.args.v (route t.lists c.args.v) None places in
    IfOk-weaker c.best.result _ _ (λ offer is. record {
      best = best;
      best_is = best_is_offer t.model t.lists c.args.v c.requires.vehicle c.args.item;
      vehicle_is = best-vehicle t.model t.lists c.args.v places best refl;
      adds = best-adds t.model t.lists c.args.v places best refl;
      kept = is ∙ ap₂ (λ m l. no_more_than c.args.limit (best_of m c.args.v l None (placings_of l c.args.item))) (ap (λ t. t.model) c.self.view_is) list;
    }) c.best.ensures.best

pub take-requires-clause-tour : goal.take-requires-clause-tour
take-requires-clause-tour c =
    let lists = c.self.inside.routes.lists in
    let same = sym c.lookups.ensures in
    record {
      visits = subst (λ m. IsTrue (list_all (is_visit m) c.list-nodes.result.now)) same
          (ap (list_all (is_visit c.self.inside.asker)) c.list-nodes.ensures.value ∙ built-visits c.self.inside.asker lists c.args.v c.self.invariant.built);
      distinct = ap is_distinct c.list-nodes.ensures.value ∙ built-distinct c.self.inside.asker lists c.args.v c.self.invariant.built;
    }

pub invariant_of-self : goal.invariant_of-self
invariant_of-self c = record {
  visits_are = c.self.invariant.visits_are;
  built = c.self.invariant.built;
  known_are = known-set c.self.inside.asker c.self.inside.known.items c.args.v c.take.new.self c.self.invariant.known_are
      (subst (λ m. IsKnownRoute m c.args.v c.take.new.self) c.lookups.ensures c.take.ensures.known);
  spare_visits = c.self.invariant.spare_visits;
  spare_many = c.self.invariant.spare_many;
  room_many = c.self.invariant.room_many;
}

pub invariant_of-self-2 : goal.invariant_of-self-2
invariant_of-self-2 c =
    let same = sym c.best.ensures.model in
    record {
      visits_are = c.self.invariant.visits_are ∙ ap visits same;
      built = subst (λ m. AreBuilt m c.self.inside.routes.lists) same c.self.invariant.built;
      known_are = subst (λ m. AreKnownRoutes m (set c.self.inside.known.items c.args.v c.take.new.self)) same
          (known-set c.self.inside.asker c.self.inside.known.items c.args.v c.take.new.self c.self.invariant.known_are
          (subst (λ m. IsKnownRoute m c.args.v c.take.new.self) c.lookups.ensures c.take.ensures.known));
      spare_visits = c.self.invariant.spare_visits ∙ ap visits same;
      spare_many = c.self.invariant.spare_many ∙ ap (λ m. length m.vehicles) same;
      room_many = c.self.invariant.room_many ∙ ap (λ m. length m.vehicles) same;
    }
