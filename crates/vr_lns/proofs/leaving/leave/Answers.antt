use Rattle.std.proofs.Common.{◌≡◌, ◌∙◌, ap, length, sym, subst}
use Rattle.std.specs.Prelude.{IsTrue}
use Rattle.vr_model.specs.routes.Routes.{are_lists, holds}
use Rattle.vr_routes.proofs.ListsLemmas.{many_of, once_of, visits_of}
use Rattle.vr_routes.proofs.TourLemmas.{visit_held}
use Rattle.vr_lns.specs.Cuts.{left_by}
use Rattle.vr_lns.proofs.LeftLemmas.{left_are_lists}
use Rattle.vr_lns.proofs.leaving.leave.Goals.{After-deref}
use Rattle.vr_lns.proofs.leaving.leave.Goals as goal

-- what is written is what the cut leaves
written : (c : After-deref)
    → c.deref.result.now ≡ left_by c.args.cut.now.lookups.now.closed.model.now c.args.cut.now.most c.args.cut.now.routes.now.lists c.args.cut.now.at
written c = c.deref.ensures.value ∙ c.in_ok-lists.ensures

pub set_lists-requires-clause-many : goal.set_lists-requires-clause-many
set_lists-requires-clause-many c =
    let model = c.args.cut.now.lookups.now.closed.model.now in
    many_of model c.args.left.now.lists c.requires.lists_are ∙ sym (many_of model _ (left_are_lists c.args.cut.now))
    ∙ sym (ap length (written (goal.at.set_lists-requires-clause-many c).After-deref))

pub set_lists-requires-clause-visits : goal.set_lists-requires-clause-visits
set_lists-requires-clause-visits c = λ node active.
    let model = c.args.cut.now.lookups.now.closed.model.now in
    subst (λ vs. IsTrue (holds vs node)) (sym c.requires.visits_are)
    (visit_held model node
    (visits_of model c.deref.result.now
    (ap (are_lists model) (written (goal.at.set_lists-requires-clause-visits c).After-deref) ∙ left_are_lists c.args.cut.now) node active))

pub set_lists-requires-clause-once : goal.set_lists-requires-clause-once
set_lists-requires-clause-once c =
    let model = c.args.cut.now.lookups.now.closed.model.now in
    once_of model c.deref.result.now (ap (are_lists model) (written (goal.at.set_lists-requires-clause-once c).After-deref) ∙ left_are_lists c.args.cut.now)

pub returns-clause-of_model : goal.returns-clause-of_model
returns-clause-of_model c = record {
  visits_are = c.set_lists.ensures.visits ∙ c.requires.visits_are;
  lists_are =
      ap (are_lists c.args.cut.now.lookups.now.closed.model.now) (c.set_lists.ensures.lists ∙ written (goal.at.returns-clause-of_model c).After-deref)
      ∙ left_are_lists c.args.cut.now;
}
