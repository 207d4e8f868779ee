use Rattle.std.proofs.Common.{◌≡◌, ◌∙◌, [], Bool, true, false, cond, refl, ap, ap₂, sym, subst}
use Rattle.std.specs.Prelude.{◌*◌, ◌/◌, ◌^◌, ◌+ℤ◌, pos, OnErr, OnOk}
use Rattle.vr_model.specs.tables.Tables.{visits}
use Rattle.vr_model.specs.tables.WellFormed.{IsWellFormed}
use Rattle.vr_model.proofs.tables.Refusals.{on_err}
use Rattle.vr_rules.specs.Placing.{AreBuilt}
use Rattle.vr_watch.specs.Told.{Reported, ReportedInPart}
use Rattle.vr_watch.proofs.ToldLemmas.{none_behind, told_nothing}
use Rattle.vr_ruin.specs.Searching.{AreRoutesOf, IsIn, accept_events}
use Rattle.vr_ruin.specs.Standings.{is_less, standing_with, worth_of}
use Rattle.vr_ruin.specs.Steps.{RefineState, RefineStep, step_events, step_from}
use Rattle.vr_ruin.proofs.AdvanceLemmas.{lists_cond, on_ok, routes_cond, some_of, stays_valid, step_is, step_of_none}
use Rattle.vr_ruin.proofs.SearchLemmas.{accepted_events, accepted_in, refused_events, refused_in}
use Rattle.vr_ruin.proofs.advancing.advance.Given.{Over}
use Rattle.vr_ruin.proofs.advancing.advance.Goals.{After-accept, After-is_accepted}
use Rattle.vr_ruin.proofs.advancing.advance.Goals as goal

-- ---- a model without visits

pub returns-then-not-has_visits-clause-state : goal.returns-then-not-has_visits-clause-state
returns-then-not-has_visits-clause-state g c = λ state is.
    refused_in c.args.stepper.now.model c.args.terms.ruin c.args.terms.limit.tries state c.args.routes.now.lists
    c.args.best.now.lists c.args.stepper.now.words c.args.stepper.now.words state.search.lists c.args.at.now is
    (step_of_none c.args.stepper.now.model c.args.terms.ruin c.args.terms.limit.tries state c.args.routes.now.lists
    c.args.best.now.lists c.args.stepper.now.words c.args.at.now c.has_visits.result is c.has_visits.ensures c.if-not-has_visits.true)

pub returns-then-not-has_visits-clause-told : goal.returns-then-not-has_visits-clause-told
returns-then-not-has_visits-clause-told g c = λ state is.
    subst (λ es. Reported (λ w. (goal.Watch-dyn g (w.vtable, w.value)).after w.value) c.args.watch.now.items c.args.watch.now.items es)
    (sym (refused_events c.args.stepper.now.model c.args.terms.ruin c.args.terms.limit.tries state c.args.stepper.now.words state.search.lists
    (step_of_none c.args.stepper.now.model c.args.terms.ruin c.args.terms.limit.tries state c.args.routes.now.lists c.args.best.now.lists
    c.args.stepper.now.words c.args.at.now c.has_visits.result is c.has_visits.ensures c.if-not-has_visits.true))) (told_nothing _ _)

-- ---- memory runs out before the step is made

pub returns-in_err-remake-clause-told_in_part : goal.returns-in_err-remake-clause-told_in_part
returns-in_err-remake-clause-told_in_part g c = λ state is.
    on_err c.from_residual.result (none_behind (λ w. (goal.Watch-dyn g (w.vtable, w.value)).after w.value) _ _ [] _ (told_nothing _ _))

pub returns-in_err-new-clause-told_in_part : goal.returns-in_err-new-clause-told_in_part
returns-in_err-new-clause-told_in_part g c = λ state is.
    on_err c.from_residual-in_err-new.result (none_behind (λ w. (goal.Watch-dyn g (w.vtable, w.value)).after w.value) _ _ [] _ (told_nothing _ _))

-- ---- what was made

new_is : (g : Over) (c : After-is_accepted g) → c.in_ok-new.new ≡ worth_of c.args.stepper.now.model c.remake.new.trial.lists
new_is g c = c.in_ok-new.ensures.value ∙ ap (λ m. worth_of m c.remake.new.trial.lists) (c.in_ok-remake.ensures.trial ∙ c.requires.same)

step_made : (g : Over) (c : After-is_accepted g) (state : RefineState)
    → IsIn c.args.stepper.now.model state c.args.routes.now.lists c.args.best.now.lists c.args.stepper.now.words c.args.at.now
    → step_from c.args.stepper.now.model c.args.terms.ruin c.args.terms.limit.tries state
    ≡ record { lists = c.remake.new.trial.lists; is_accepted = c.is_accepted.result; words = c.zeros-e.new.self.words }
step_made g c state is =
    step_is c.args.stepper.now.model c.args.terms.ruin c.args.terms.limit.tries state c.args.routes.now.lists c.args.best.now.lists
    c.args.stepper.now.words c.remake.new.self.words c.zeros-e.new.self.words c.remake.new.trial.lists c.args.at.now
    c.heat_of_step-h.result c.zeros-e.result c.is_accepted.result is
    (some_of _ c.has_visits.result c.has_visits.ensures c.if-not-has_visits.false) c.in_ok-remake.ensures.value
    c.zeros-e.ensures.value c.heat_of_step-h.ensures.value
    (c.is_accepted.ensures
    ∙ ap (λ w. is_less w c.args.at.now.here (c.args.at.now.here.cost +ℤ pos (c.heat_of_step-h.result * c.zeros-e.result / 2 ^ 16))) (new_is g c))

step_judged : (g : Over) (c : After-is_accepted g) (b : Bool) → c.is_accepted.result ≡ b → (state : RefineState)
    → IsIn c.args.stepper.now.model state c.args.routes.now.lists c.args.best.now.lists c.args.stepper.now.words c.args.at.now
    → step_from c.args.stepper.now.model c.args.terms.ruin c.args.terms.limit.tries state
    ≡ record { lists = c.remake.new.trial.lists; is_accepted = b; words = c.zeros-e.new.self.words }
step_judged g c b e state is = step_made g c state is
    ∙ ap (λ b. let step : RefineStep = record { lists = c.remake.new.trial.lists; is_accepted = b; words = c.zeros-e.new.self.words } in step) e

-- ---- refused

pub returns-then-not-is_accepted-clause-state : goal.returns-then-not-is_accepted-clause-state
returns-then-not-is_accepted-clause-state g c = λ state is.
    refused_in c.args.stepper.now.model c.args.terms.ruin c.args.terms.limit.tries state c.args.routes.now.lists
    c.args.best.now.lists c.args.stepper.now.words c.zeros-e.new.self.words c.remake.new.trial.lists c.args.at.now is
    (step_judged g (goal.at.returns-then-not-is_accepted-clause-state g c).After-is_accepted false c.if-not-is_accepted.true state is)

pub returns-then-not-is_accepted-clause-told : goal.returns-then-not-is_accepted-clause-told
returns-then-not-is_accepted-clause-told g c = λ state is.
    subst (λ es. Reported (λ w. (goal.Watch-dyn g (w.vtable, w.value)).after w.value) c.args.watch.now.items c.args.watch.now.items es)
    (sym (refused_events c.args.stepper.now.model c.args.terms.ruin c.args.terms.limit.tries state c.zeros-e.new.self.words c.remake.new.trial.lists
    (step_judged g (goal.at.returns-then-not-is_accepted-clause-told g c).After-is_accepted false c.if-not-is_accepted.true state is))) (told_nothing _ _)

-- ---- accepted

model_is : (g : Over) (c : After-accept g) → c.worth.new.trial.model ≡ c.args.stepper.now.model
model_is g c = ap (λ t. t.model) c.in_ok-new.ensures.trial ∙ c.in_ok-remake.ensures.trial ∙ c.requires.same

lists_are : (g : Over) (c : After-accept g) → c.routes.result.now.lists ≡ c.remake.new.trial.lists
lists_are g c = c.routes.ensures.lists ∙ ap (λ t. t.lists) c.in_ok-new.ensures.trial

built : (g : Over) (c : After-accept g) → AreBuilt c.args.stepper.now.model c.routes.result.now.lists
built g c = subst (λ ls. AreBuilt c.args.stepper.now.model ls) (sym c.routes.ensures.lists)
    (subst (λ m. AreBuilt m c.worth.new.trial.lists) (model_is g c) c.routes.ensures.built)

pub returns-clause-best : goal.returns-clause-best
returns-clause-best g c =
    let at = (goal.at.returns-clause-best g c).After-accept in
    subst (AreRoutesOf c.args.stepper.now.model) (sym c.accept.ensures.best)
    (routes_cond c.args.stepper.now.model _ c.routes.result.now c.args.best.now
    (record { visits_are = c.routes.ensures.visits ∙ ap visits (model_is g at); built = built g at }) c.requires.best)

pub returns-clause-valid : goal.returns-clause-valid
returns-clause-valid g c = λ valid.
    let at = (goal.at.returns-clause-valid g c).After-accept in
    let now = (goal.at.returns-clause-valid g c).After-is_accepted in
    let m = c.args.stepper.now.model in
    let made = c.accept.new.routes.lists in
    let same : made ≡ c.routes.result.now.lists = ap (λ r. r.lists) c.accept.ensures.routes in
    let bound = c.args.at.now.here.cost +ℤ pos (c.heat_of_step-h.result * c.zeros-e.result / 2 ^ 16) in
    let worth = new_is g now ∙ ap (worth_of m) (sym (same ∙ lists_are g at)) in
    stays_valid m (subst IsWellFormed (model_is g at) c.know.ensures.well_formed) c.args.routes.now.lists
    made c.requires.routes.built (subst (AreBuilt m) (sym same) (built g at)) bound
    (ap₂ (λ new old. is_less new old bound) (sym worth) (sym c.requires.here) ∙ sym c.is_accepted.ensures ∙ c.if-not-is_accepted.false) valid

pub returns-clause-state : goal.returns-clause-state
returns-clause-state g c = λ state is.
    let at = (goal.at.returns-clause-state g c).After-accept in
    let now = (goal.at.returns-clause-state g c).After-is_accepted in
    let m = c.args.stepper.now.model in
    let made = c.accept.new.routes.lists in
    let best = c.args.best.now.lists in
    let same : made ≡ c.routes.result.now.lists = ap (λ r. r.lists) c.accept.ensures.routes in
    let made_is = same ∙ lists_are g at in
    let worth = new_is g now ∙ ap (worth_of m) (sym made_is) in
    on_ok c.accept.result
    (accepted_in m c.args.terms.ruin c.args.terms.limit.tries state best c.accept.new.best.lists
    c.args.stepper.now.words c.zeros-e.new.self.words made c.args.at.now c.accept.new.at
    (record { lists_are = refl; best_are = is.best_are; words_are = is.words_are; at_is = is.at_is })
    (step_judged g now true c.if-not-is_accepted.false state is
    ∙ ap (λ ls. let step : RefineStep = record { lists = ls; is_accepted = true; words = c.zeros-e.new.self.words } in step) (sym made_is))
    (ap (λ r. r.lists) c.accept.ensures.best ∙ lists_cond _ c.routes.result.now c.args.best.now
    ∙ ap₂ (λ w ls. cond (is_less w c.args.at.now.best c.args.at.now.best.cost) ls best) worth (sym same))
    (c.accept.ensures.at ∙ ap (standing_with c.args.at.now) worth))

-- the events
events_are : (g : Over) (c : After-is_accepted g) → c.is_accepted.result ≡ true → (state : RefineState)
    → IsIn c.args.stepper.now.model state c.args.routes.now.lists c.args.best.now.lists c.args.stepper.now.words c.args.at.now
    → accept_events c.args.at.now c.in_ok-new.new
    ≡ step_events c.args.stepper.now.model state (step_from c.args.stepper.now.model c.args.terms.ruin c.args.terms.limit.tries state)
events_are g c taken state is = ap (accept_events c.args.at.now) (new_is g c)
    ∙ accepted_events c.args.stepper.now.model c.args.terms.ruin c.args.terms.limit.tries state
    c.zeros-e.new.self.words c.remake.new.trial.lists c.args.at.now is.at_is (step_judged g c true taken state is)

pub returns-clause-told : goal.returns-clause-told
returns-clause-told g c = λ state is.
    subst
    (λ es. OnOk c.accept.result (Reported (λ w. (goal.Watch-dyn g (w.vtable, w.value)).after w.value) c.args.watch.now.items c.accept.new.watch.items es))
    (events_are g (goal.at.returns-clause-told g c).After-is_accepted c.if-not-is_accepted.false state is) c.accept.ensures.told

pub returns-clause-told_in_part : goal.returns-clause-told_in_part
returns-clause-told_in_part g c = λ state is.
    subst (λ es. OnErr c.accept.result
    (ReportedInPart (λ w. (goal.Watch-dyn g (w.vtable, w.value)).after w.value) c.args.watch.now.items c.accept.new.watch.items es))
    (events_are g (goal.at.returns-clause-told_in_part g c).After-is_accepted c.if-not-is_accepted.false state is) c.accept.ensures.told_in_part
