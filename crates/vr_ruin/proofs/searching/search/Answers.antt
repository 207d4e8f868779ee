use Rattle.std.proofs.Common.{◌≡◌, ◌∙◌, ◌-◌, true, false, inl, inr, refl, ap, subst, arith}
use Rattle.std.specs.Prelude.{IsTrue}
use Rattle.std.proofs.lemmas.Bool.{eq-eqb}
use Rattle.vr_model.specs.routes.Rules.{is_valid}
use Rattle.vr_model.proofs.tables.Refusals.{on_err}
use Rattle.vr_model.proofs.tables.Tests.{apart}
use Rattle.vr_watch.specs.Told.{Reported, ReportedInPart}
use Rattle.vr_ruin.specs.Refining.{refined_from}
use Rattle.vr_ruin.specs.Searching.{AreRoutesOf, IsIn}
use Rattle.vr_ruin.specs.Standings.{worth_of}
use Rattle.vr_ruin.specs.Steps.{RefineState, after_step, step_events, step_from}
use Rattle.vr_ruin.proofs.AdvanceLemmas.{breaks, comes, steps}
use Rattle.vr_ruin.proofs.searching.search.Goals.{then-steps-test+else-at-terms, else-steps-test}
use Rattle.vr_ruin.proofs.searching.search.Goals as goal

pub steps-preserved : goal.steps-preserved
steps-preserved g c =
    let m = c.args.stepper.now.model in
    let same = c.steps.invariant.stepper in
    let found = c.in_ok-advance.ensures.found in
    let used = c.in_ok-advance.ensures.used in
    record {
      stepper = c.in_ok-advance.ensures.model ∙ same;
      trial = c.in_ok-advance.ensures.trial ∙ c.steps.invariant.trial;
      used = omega (arith, used, c.steps.invariant.used, c.if-at-terms.true);
      found = omega (arith, found, c.steps.invariant.found, c.steps-test.true);
      cost = c.in_ok-advance.ensures.cost;
      here = c.in_ok-advance.ensures.here ∙ ap (λ m. worth_of m c.advance.new.routes.lists) same;
      routes = subst (λ m. AreRoutesOf m c.advance.new.routes) same c.in_ok-advance.ensures.routes;
      best = subst (λ m. AreRoutesOf m c.advance.new.best) same c.in_ok-advance.ensures.best;
      valid = λ valid. subst (λ m. IsTrue (is_valid m c.steps.routes.lists) → IsTrue (is_valid m c.advance.new.routes.lists))
          same c.in_ok-advance.ensures.valid (c.steps.invariant.valid valid);
      goes = λ state is. steps (λ w. (goal.Watch-dyn g (w.vtable, w.value)).after w.value) m c.args.terms.ruin c.args.terms.limit
          (refined_from m c.args.terms.ruin c.args.terms.limit (c.args.terms.limit.tries - c.args.at.now.used) state) c.steps.routes.lists
          c.steps.best.lists c.steps.stepper.words c.steps.at c.args.watch.now.items c.steps.watch.items (c.steps.invariant.goes state is)
          (omega (arith, c.steps.invariant.used, c.if-at-terms.true)) (apart c.steps.at.found c.args.terms.limit.solutions c.steps-test.true)
          c.advance.new.routes.lists c.advance.new.best.lists c.advance.new.stepper.words c.advance.new.at c.advance.new.watch.items used
          (subst (λ m. (state : RefineState) → IsIn m state c.steps.routes.lists c.steps.best.lists c.steps.stepper.words c.steps.at
          → IsIn m (after_step m state (step_from m c.args.terms.ruin c.args.terms.limit.tries state)) c.advance.new.routes.lists
          c.advance.new.best.lists c.advance.new.stepper.words c.advance.new.at) same c.in_ok-advance.ensures.state)
          (subst (λ m. (state : RefineState) → IsIn m state c.steps.routes.lists c.steps.best.lists c.steps.stepper.words c.steps.at
          → Reported (λ w. (goal.Watch-dyn g (w.vtable, w.value)).after w.value) c.steps.watch.items c.advance.new.watch.items
          (step_events m state (step_from m c.args.terms.ruin c.args.terms.limit.tries state))) same c.in_ok-advance.ensures.told);
    }

pub returns-in_err-advance-clause-told_in_part : goal.returns-in_err-advance-clause-told_in_part
returns-in_err-advance-clause-told_in_part g c = λ state is.
    let m = c.args.stepper.now.model in
    on_err c.from_residual.result
    (breaks (λ w. (goal.Watch-dyn g (w.vtable, w.value)).after w.value) m c.args.terms.ruin c.args.terms.limit
    (refined_from m c.args.terms.ruin c.args.terms.limit (c.args.terms.limit.tries - c.args.at.now.used) state) c.steps.routes.lists
    c.steps.best.lists c.steps.stepper.words c.steps.at c.args.watch.now.items c.steps.watch.items (c.steps.invariant.goes state is)
    (omega (arith, c.steps.invariant.used, c.if-at-terms.true)) (apart c.steps.at.found c.args.terms.limit.solutions c.steps-test.true)
    c.advance.new.watch.items
    (subst (λ m. (state : RefineState) → IsIn m state c.steps.routes.lists c.steps.best.lists c.steps.stepper.words c.steps.at
    → ReportedInPart (λ w. (goal.Watch-dyn g (w.vtable, w.value)).after w.value) c.steps.watch.items c.advance.new.watch.items
    (step_events m state (step_from m c.args.terms.ruin c.args.terms.limit.tries state))) c.steps.invariant.stepper c.in_err-advance.ensures.told_in_part))

pub returns-then-at-terms-2-clause-ended : goal.returns-then-at-terms-2-clause-ended
returns-then-at-terms-2-clause-ended g c = λ state is.
    let m = c.args.stepper.now.model in
    comes (λ w. (goal.Watch-dyn g (w.vtable, w.value)).after w.value) m c.args.terms.ruin c.args.terms.limit
    (refined_from m c.args.terms.ruin c.args.terms.limit (c.args.terms.limit.tries - c.args.at.now.used) state) c.steps.routes.lists
    c.steps.best.lists c.steps.stepper.words c.steps.at c.args.watch.now.items c.steps.watch.items (c.steps.invariant.goes state is)
    true (eq-eqb c.steps.at.found c.args.terms.limit.solutions c.if-at-terms-2.true) (inl refl)

pub returns-else-at-terms-2-clause-ended : goal.returns-else-at-terms-2-clause-ended
returns-else-at-terms-2-clause-ended g c = λ state is.
    let m = c.args.stepper.now.model in
    let none : c.args.terms.limit.tries - c.steps.at.used ≡ 0 = elim c.steps-test.branch [
      | then-steps-test+else-at-terms w ↦ omega (arith, w.if-at-terms)
      | else-steps-test w ↦ absurd (c.if-at-terms-2.false w.steps-test.false)
    ] in
    comes (λ w. (goal.Watch-dyn g (w.vtable, w.value)).after w.value) m c.args.terms.ruin c.args.terms.limit
    (refined_from m c.args.terms.ruin c.args.terms.limit (c.args.terms.limit.tries - c.args.at.now.used) state) c.steps.routes.lists
    c.steps.best.lists c.steps.stepper.words c.steps.at c.args.watch.now.items c.steps.watch.items (c.steps.invariant.goes state is)
    false (apart c.steps.at.found c.args.terms.limit.solutions c.if-at-terms-2.false) (inr none)
