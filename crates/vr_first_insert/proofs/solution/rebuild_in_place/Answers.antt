use Rattle.std.proofs.Common.{◌∙◌, sym, subst}
use Rattle.std.specs.Prelude.{IsTrue}
use Rattle.vr_model.specs.routes.Routes.{holds}
use Rattle.vr_rules.specs.Placing.{AreBuilt}
use Rattle.vr_routes.proofs.ListsLemmas.{many_of, once_of, visits_of}
use Rattle.vr_routes.proofs.TourLemmas.{visit_held}
use Rattle.vr_first_insert.proofs.solution.rebuild_in_place.Goals as goal

pub set_lists-requires-clause-many : goal.set_lists-requires-clause-many
set_lists-requires-clause-many c =
    let model = c.args.lookups.now.closed.model.now in
    let built : AreBuilt model c.deref.result.now = subst (AreBuilt model) (sym c.deref.ensures.value) c.in_ok-rebuild.ensures.built in
    many_of model c.args.routes.now.lists c.requires.built.are_lists ∙ sym (many_of model c.deref.result.now built.are_lists)

pub set_lists-requires-clause-visits : goal.set_lists-requires-clause-visits
set_lists-requires-clause-visits c = λ node active.
    let model = c.args.lookups.now.closed.model.now in
    let built : AreBuilt model c.deref.result.now = subst (AreBuilt model) (sym c.deref.ensures.value) c.in_ok-rebuild.ensures.built in
    subst (λ vs. IsTrue (holds vs node)) (sym c.requires.of_model) (visit_held model node (visits_of model c.deref.result.now built.are_lists node active))

pub set_lists-requires-clause-once : goal.set_lists-requires-clause-once
set_lists-requires-clause-once c =
    let model = c.args.lookups.now.closed.model.now in
    let built : AreBuilt model c.deref.result.now = subst (AreBuilt model) (sym c.deref.ensures.value) c.in_ok-rebuild.ensures.built in
    once_of model c.deref.result.now built.are_lists
