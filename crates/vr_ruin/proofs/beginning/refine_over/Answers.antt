use Rattle.std.proofs.Common.{◌≡◌, [], subst}
use Rattle.std.specs.Prelude.{IfOk, IsTrue, OnErr, OnOk, option_map}
use Rattle.vr_model.specs.routes.Rules.{is_valid}
use Rattle.vr_model.proofs.tables.Refusals.{on_err}
use Rattle.vr_watch.specs.Told.{Reported, ReportedInPart}
use Rattle.vr_watch.proofs.ToldLemmas.{none_behind, told_nothing}
use Rattle.vr_ruin.specs.Answers.{answer_in, answer_of}
use Rattle.vr_ruin.specs.Refining.{refined, refined_search}
use Rattle.vr_ruin.specs.Searching.{AreRoutesOf}
use Rattle.vr_ruin.proofs.beginning.refine_over.Goals as goal

pub returns-in_err-trial-clause-told_in_part : goal.returns-in_err-trial-clause-told_in_part
returns-in_err-trial-clause-told_in_part g c =
    on_err c.from_residual.result (none_behind (λ w. (goal.Watch-dyn g (w.vtable, w.value)).after w.value) _ _ [] _ (told_nothing _ _))

pub returns-in_err-stepper-clause-told_in_part : goal.returns-in_err-stepper-clause-told_in_part
returns-in_err-stepper-clause-told_in_part g c =
    on_err c.from_residual-in_err-stepper.result (none_behind (λ w. (goal.Watch-dyn g (w.vtable, w.value)).after w.value) _ _ [] _ (told_nothing _ _))

pub returns-clause-answer : goal.returns-clause-answer
returns-clause-answer g c =
    subst (λ m. IfOk c.refine_from.result
    (λ answer. option_map answer_in answer ≡ option_map (answer_of m) (refined m c.args.routes.now.lists c.args.limit c.args.wish)))
    c.in_ok-stepper.ensures.model c.refine_from.ensures.answer

pub returns-clause-last : goal.returns-clause-last
returns-clause-last g c =
    subst
    (λ m. OnOk c.refine_from.result (c.refine_from.new.routes.lists ≡ (refined_search m c.args.routes.now.lists c.args.limit c.args.wish).outcome.last))
    c.in_ok-stepper.ensures.model c.refine_from.ensures.last

pub returns-clause-told : goal.returns-clause-told
returns-clause-told g c =
    subst (λ m. OnOk c.refine_from.result
    (Reported (λ w. (goal.Watch-dyn g (w.vtable, w.value)).after w.value) c.args.watch.now.items c.refine_from.new.watch.items
    (refined_search m c.args.routes.now.lists c.args.limit c.args.wish).outcome.events)) c.in_ok-stepper.ensures.model c.refine_from.ensures.told

pub returns-clause-told_in_part : goal.returns-clause-told_in_part
returns-clause-told_in_part g c =
    subst (λ m. OnErr c.refine_from.result
    (ReportedInPart (λ w. (goal.Watch-dyn g (w.vtable, w.value)).after w.value) c.args.watch.now.items c.refine_from.new.watch.items
    (refined_search m c.args.routes.now.lists c.args.limit c.args.wish).outcome.events)) c.in_ok-stepper.ensures.model c.refine_from.ensures.told_in_part

pub returns-clause-routes : goal.returns-clause-routes
returns-clause-routes g c = subst (λ m. AreRoutesOf m c.refine_from.new.routes) c.in_ok-stepper.ensures.model c.refine_from.ensures.routes

pub returns-clause-valid : goal.returns-clause-valid
returns-clause-valid g c = subst (λ m. IsTrue (is_valid m c.args.routes.now.lists) → IsTrue (is_valid m c.refine_from.new.routes.lists))
    c.in_ok-stepper.ensures.model c.refine_from.ensures.valid
