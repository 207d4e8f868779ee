use Rattle.std.proofs.Common.{◌≡◌, ℕ, [], ◌∷◌, ap, subst}
use Rattle.vr_watch.specs.Told.{Reported, ReportedInPart}
use Rattle.vr_model.proofs.tables.Refusals.{on_err}
use Rattle.vr_descent.specs.Ending.{HasStopped}
use Rattle.vr_descent.proofs.AskingLemmas.{asks_as, from_none}
use Rattle.vr_descent.proofs.Beginnings.{at_first, cost_read, first, first_event, first_in_part, first_told}
use Rattle.vr_descent.proofs.EndingLemmas.{has_ended}
use Rattle.vr_descent.proofs.GoingOn.{Goes, breaks_within, goes_nowhere}
use Rattle.vr_model.specs.declared.search.Limit.{Limit}
use Rattle.vr_tabu.specs.Standing.{IsTabuBegun, tabu_from_state}
use Rattle.vr_tabu.specs.TabuSearches.{tabu_search}
use Rattle.vr_tabu.specs.declared.searching.Parameters.{Parameters}
use Rattle.vr_tabu.proofs.SearchLemmas.{at_start}
use Rattle.vr_tabu.proofs.StartLemmas.{begun_stands, rest, rest_is}
use Rattle.vr_tabu.proofs.searching.tabu.Given.{Over}
use Rattle.vr_tabu.proofs.searching.tabu.Goals.{In_ok-note_all, In_ok-state}
use Rattle.vr_tabu.proofs.searching.tabu.Goals as goal

abbrev within : Limit → ℕ → Parameters
within limit tenure = record { limit = limit; tenure = tenure }

-- the first event was told
noted : (g : Over) (c : In_ok-note_all g)
    → Goes (λ w. (goal.Watch-dyn g (w.vtable, w.value)).after w.value) (tabu_search c.args.model.now c.args.routes.now.lists c.args.limit c.args.tenure)
    (rest c.args.model.now (within c.args.limit c.args.tenure) c.args.routes.now.lists) c.args.watch.now.items c.note_all.new.watch.items
noted g c =
    first_told (λ w. (goal.Watch-dyn g (w.vtable, w.value)).after w.value) (tabu_search c.args.model.now c.args.routes.now.lists c.args.limit c.args.tenure)
    (rest c.args.model.now (within c.args.limit c.args.tenure) c.args.routes.now.lists) (first c.args.model.now c.args.routes.now.lists)
    (at_start c.args.model.now (within c.args.limit c.args.tenure) c.args.routes.now.lists) _ _
    (subst (λ event. Reported (λ w. (goal.Watch-dyn g (w.vtable, w.value)).after w.value) c.args.watch.now.items c.note_all.new.watch.items (event ∷ []))
    (first_event c.args.model.now c.requires.well_formed c.args.routes.now.lists c.requires.begins.judge.holds.valid
    c.args.first_cost c.requires.begins.first_cost c.event.result c.event.ensures) c.in_ok-note_all.ensures.told)

-- the search begins where the definition does, and what is left is what is left behind the first event
begins : (g : Over) (c : In_ok-state g) → IsTabuBegun c.args.model.now c.args.routes.now (at_first c.args.model.now c.args.routes.now.lists) c.in_ok-state.state
begins g c =
    subst (λ k. IsTabuBegun c.args.model.now c.args.routes.now (record { used = 0; found = 1; cost = k }) c.in_ok-state.state)
    (cost_read c.args.model.now c.requires.well_formed c.args.routes.now.lists
    c.requires.begins.judge.holds.valid c.args.first_cost c.requires.begins.first_cost) c.in_ok-state.ensures

same : (g : Over) (c : In_ok-state g) → tabu_from_state c.args.model.now (within c.args.limit c.args.tenure) c.args.routes.now.lists c.in_ok-state.state
    ≡ (rest c.args.model.now (within c.args.limit c.args.tenure) c.args.routes.now.lists)
same g c = rest_is c.args.model.now (within c.args.limit c.args.tenure) c.args.routes.now c.in_ok-state.state (begins g c)

pub returns-in_err-note_all-clause-told_in_part : goal.returns-in_err-note_all-clause-told_in_part
returns-in_err-note_all-clause-told_in_part g c =
    on_err c.from_residual.result
    (first_in_part (λ w. (goal.Watch-dyn g (w.vtable, w.value)).after w.value)
    (tabu_search c.args.model.now c.args.routes.now.lists c.args.limit c.args.tenure)
    (rest c.args.model.now (within c.args.limit c.args.tenure) c.args.routes.now.lists) (first c.args.model.now c.args.routes.now.lists)
    (at_start c.args.model.now (within c.args.limit c.args.tenure) c.args.routes.now.lists) _ _
    (subst
    (λ event. ReportedInPart (λ w. (goal.Watch-dyn g (w.vtable, w.value)).after w.value) c.args.watch.now.items c.note_all.new.watch.items (event ∷ []))
    (first_event c.args.model.now c.requires.well_formed c.args.routes.now.lists c.requires.begins.judge.holds.valid
    c.args.first_cost c.requires.begins.first_cost c.event.result c.event.ensures) c.in_err-note_all.ensures.told_in_part))

pub returns-in_err-state-clause-told_in_part : goal.returns-in_err-state-clause-told_in_part
returns-in_err-state-clause-told_in_part g c =
    on_err c.from_residual-in_err-state.result
    (goes_nowhere (λ w. (goal.Watch-dyn g (w.vtable, w.value)).after w.value)
    (tabu_search c.args.model.now c.args.routes.now.lists c.args.limit c.args.tenure)
    (rest c.args.model.now (within c.args.limit c.args.tenure) c.args.routes.now.lists)
    _ _ (noted g (goal.at.returns-in_err-state-clause-told_in_part g c).In_ok-note_all))

pub search-requires-clause-parameters : goal.search-requires-clause-parameters
search-requires-clause-parameters g c =
    record { tries = c.requires.begins.limit.tries; solutions = c.requires.begins.limit.solutions; tenure = c.requires.tenure_to_1000 }

pub search-requires-clause-stands : goal.search-requires-clause-stands
search-requires-clause-stands g c =
    begun_stands c.args.model.now (within c.args.limit c.args.tenure) c.args.routes.now c.in_ok-state.state
    (begins g (goal.at.search-requires-clause-stands g c).In_ok-state) _ c.requires.begins.judge.holds c.requires.begins.limit.one_solution

pub returns-in_err-end-clause-told_in_part : goal.returns-in_err-end-clause-told_in_part
returns-in_err-end-clause-told_in_part g c =
    let at = goal.at.returns-in_err-end-clause-told_in_part g c in
    on_err c.from_residual-in_err-end.result
    (breaks_within (λ w. (goal.Watch-dyn g (w.vtable, w.value)).after w.value)
    (tabu_search c.args.model.now c.args.routes.now.lists c.args.limit c.args.tenure)
    (rest c.args.model.now (within c.args.limit c.args.tenure) c.args.routes.now.lists) _ _ _ (noted g at.In_ok-note_all)
    (subst (λ o. ReportedInPart (λ w. (goal.Watch-dyn g (w.vtable, w.value)).after w.value) c.note_all.new.watch.items c.search.new.watch.items o.events)
    (same g at.In_ok-state) c.in_err-end.ensures.told_in_part))

pub returns-clause-ended : goal.returns-clause-ended
returns-clause-ended g c =
    let at = goal.at.returns-clause-ended g c in
    let model = c.args.model.now in
    let start = begins g at.In_ok-state in
    let found = c.in_ok-end.ensures in
    has_ended (λ w. (goal.Watch-dyn g (w.vtable, w.value)).after w.value) model c.args.limit
    (tabu_search model c.args.routes.now.lists c.args.limit c.args.tenure) (rest model (within c.args.limit c.args.tenure) c.args.routes.now.lists)
    c.args.routes.now c.search.new.routes _ _ _ c.search.new.state.at c.in_ok-state.state.best c.search.new.state.best _ _ c.in_ok-end.end c.report.result
    (noted g at.In_ok-note_all)
    (subst (λ o. HasStopped (λ w. (goal.Watch-dyn g (w.vtable, w.value)).after w.value) o c.search.new.routes.lists c.search.new.state.at
    c.search.new.state.best c.note_all.new.watch.items c.search.new.watch.items c.in_ok-end.end) (same g at.In_ok-state) found.stopped)
    c.requires.begins.judge.holds found.stands.going (ap (λ b. b.cost) start.best_is) found.no_dearer c.report.ensures

-- ---- how often the judge was asked

pub returns-in_err-end-clause-asked_at_most : goal.returns-in_err-end-clause-asked_at_most
returns-in_err-end-clause-asked_at_most g c =
    let used = ap (λ p. p.used) (begins g (goal.at.returns-in_err-end-clause-asked_at_most g c).In_ok-state).at_is in
    on_err c.from_residual-in_err-end.result (from_none _ _ _ _ used c.in_err-end.ensures.asked_at_most)

pub returns-clause-asked : goal.returns-clause-asked
returns-clause-asked g c =
    let used = ap (λ p. p.used) (begins g (goal.at.returns-clause-asked g c).In_ok-state).at_is in
    asks_as _ _ _ _ (ap (λ r. r.tries) c.report.ensures) (from_none _ _ _ _ used c.in_ok-end.ensures.asked)
