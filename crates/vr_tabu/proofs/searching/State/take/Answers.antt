use Rattle.std.proofs.Common.{◌≡◌, ◌∙◌, ◌+◌, [], ◌∷◌, ◌+ℤ◌, w64, to_z, of_z, ap, sym, subst, arith}
use Rattle.std.proofs.lemmas.Int.{ints}
use Rattle.vr_descent.specs.Searching.{after_move, move_event}
use Rattle.vr_descent.specs.declared.progress.Progress.{Progress}
use Rattle.std.specs.Prelude.{IsTrue}
use Rattle.vr_model.specs.routes.Costs.{cost}
use Rattle.vr_model.specs.routes.Rules.{is_valid}
use Rattle.vr_model.specs.moves.Moves.{apply}
use Rattle.vr_model.specs.declared.search.Kind.TheVariants as kind
use Rattle.vr_model.proofs.routes.CostFits.{costs_are_bounded}
use Rattle.vr_model.proofs.tables.Refusals.{on_err}
use Rattle.vr_watch.specs.Told.{Reported, ReportedInPart}
use Rattle.vr_watch.proofs.ToldLemmas.{none_behind, told_nothing}
use Rattle.vr_descent.specs.Incumbents.{kept}
use Rattle.vr_tabu.proofs.SearchLemmas.{as_many}
use Rattle.vr_tabu.proofs.searching.State.take.Given.{Over}
use Rattle.vr_tabu.proofs.searching.State.take.Goals.{After-event, After-follow}
use Rattle.vr_tabu.proofs.searching.State.take.Goals as goal

-- the cost of the lists after the move
sum : (g : Over) (c : After-follow g) → c.args.self.now.at.cost +ℤ to_z w64 (of_z w64 c.args.candidate.difference)
    ≡ cost (g.J.Judge.model c.args.judge.now) (apply (g.J.Judge.model c.args.judge.now) c.args.routes.now.lists c.args.candidate.mv)
sum g c =
    let fits = costs_are_bounded (g.J.Judge.model c.args.judge.now) c.requires.well_formed _ c.requires.valid in
    let before = costs_are_bounded (g.J.Judge.model c.args.judge.now) c.requires.well_formed _ c.requires.holds.valid in
    omega (arith, ints, c.requires.cost, c.requires.known, fits.least, fits.greatest, before.least, before.greatest)

-- where the search stands after it
made : (g : Over) (c : After-follow g)
    → c.follow.new.self.at ≡ after_move (g.J.Judge.model c.args.judge.now) c.args.routes.now.lists c.args.candidate.mv c.args.length c.args.self.now.at
made g c = c.follow.ensures.at
    ∙ ap {B = Progress} (λ k. record { used = c.args.self.now.at.used + c.args.length; found = c.args.self.now.at.found + 1; cost = k }) (sum g c)

-- the event of it
tells : (g : Over) (c : After-event g)
    → c.follow.new.self.at ≡ after_move (g.J.Judge.model c.args.judge.now) c.args.routes.now.lists c.args.candidate.mv c.args.length c.args.self.now.at
    → c.event.result ≡ move_event (g.J.Judge.model c.args.judge.now) c.args.routes.now.lists c.args.candidate.mv (c.args.self.now.at.used + c.args.length)
tells g c at = c.event.ensures ∙ ap (λ (p : Progress). record { tries = p.used; kind = kind.Move; cost = p.cost }) at

pub returns-in_err-commit_change-clause-told_in_part : goal.returns-in_err-commit_change-clause-told_in_part
returns-in_err-commit_change-clause-told_in_part g c = on_err c.from_residual.result
    (none_behind (λ w. (goal.Watch-dyn g (w.vtable, w.value)).after w.value) _ _ [] _ (told_nothing _ _))

pub follow-requires-clause-cost : goal.follow-requires-clause-cost
follow-requires-clause-cost g c =
    let fits = costs_are_bounded (g.J.Judge.model c.args.judge.now) c.requires.well_formed _ c.requires.valid in
    let before = costs_are_bounded (g.J.Judge.model c.args.judge.now) c.requires.well_formed _ c.requires.holds.valid in
    record {
      at_least = omega (arith, ints, c.requires.cost, c.requires.known, fits.least, fits.greatest, before.least, before.greatest);
      at_most = omega (arith, ints, c.requires.cost, c.requires.known, fits.least, fits.greatest, before.least, before.greatest);
    }

pub follow-requires-clause-visits : goal.follow-requires-clause-visits
follow-requires-clause-visits g c = c.requires.best.same_visits ∙ sym (ap (λ r. r.visits) c.in_ok-commit_change.ensures.routes)

pub follow-requires-clause-many : goal.follow-requires-clause-many
follow-requires-clause-many g c =
    as_many (g.J.Judge.model c.args.judge.now) c.args.self.now.best.routes.lists c.commit_change.new.routes.lists c.requires.best.valid
    (subst (λ r. IsTrue (is_valid (g.J.Judge.model c.args.judge.now) r.lists)) (sym c.in_ok-commit_change.ensures.routes) c.requires.valid)

pub returns-in_err-note_all-clause-told_in_part : goal.returns-in_err-note_all-clause-told_in_part
returns-in_err-note_all-clause-told_in_part g c =
    on_err c.from_residual-in_err-note_all.result
    (subst (λ e. ReportedInPart (λ w. (goal.Watch-dyn g (w.vtable, w.value)).after w.value) c.args.watch.now.items c.note_all.new.watch.items (e ∷ []))
    (tells g (goal.at.returns-in_err-note_all-clause-told_in_part g c).After-event
    (made g (goal.at.returns-in_err-note_all-clause-told_in_part g c).After-follow)) c.in_err-note_all.ensures.told_in_part)

pub returns-clause-at : goal.returns-clause-at
returns-clause-at g c =
    made g (goal.at.returns-clause-at g c).After-follow

pub returns-clause-best : goal.returns-clause-best
returns-clause-best g c =
    c.follow.ensures.best ∙ ap (kept c.args.self.now.best c.commit_change.new.routes)
    (sum g (goal.at.returns-clause-best g c).After-follow
    ∙ sym (ap (λ r. cost (g.J.Judge.model c.args.judge.now) r.lists) c.in_ok-commit_change.ensures.routes))

pub returns-clause-told : goal.returns-clause-told
returns-clause-told g c =
    subst (λ e. Reported (λ w. (goal.Watch-dyn g (w.vtable, w.value)).after w.value) c.args.watch.now.items c.note_all.new.watch.items (e ∷ []))
    (tells g (goal.at.returns-clause-told g c).After-event (made g (goal.at.returns-clause-told g c).After-follow)) c.in_ok-note_all.ensures.told
