use Rattle.std.proofs.Common.{◌≡◌, ◌≤◌, ◌-◌}
use Rattle.std.specs.Prelude.{IsTrue}
use Rattle.vr_model.specs.routes.Rules.{is_valid}
use Rattle.vr_ruin.specs.Payments.{IsCost}
use Rattle.vr_ruin.specs.Refining.{refined_from}
use Rattle.vr_ruin.specs.Searching.{AreRoutesOf, IsIn}
use Rattle.vr_ruin.specs.Standings.{worth_of}
use Rattle.vr_ruin.specs.Steps.{RefineState}
use Rattle.vr_ruin.proofs.AdvanceLemmas.{GoesOn}
use Rattle.vr_ruin.proofs.searching.search.Given as goal

-- the whole search is the search from here, after what was told
abbrev pub invariant-steps : goal.invariant-steps
invariant-steps g l = record {
  stepper : l.stepper.model ≡ l.fn.stepper.model;
  trial : l.trial.model ≡ l.fn.stepper.model;
  used : l.at.used ≤ l.terms.limit.tries;
  found : l.at.found ≤ l.terms.limit.solutions;
  cost : IsCost l.at.here.cost;
  here : l.at.here ≡ worth_of l.fn.stepper.model l.routes.lists;
  routes : AreRoutesOf l.fn.stepper.model l.routes;
  best : AreRoutesOf l.fn.stepper.model l.best;
  valid : IsTrue (is_valid l.fn.stepper.model l.fn.routes.lists) → IsTrue (is_valid l.fn.stepper.model l.routes.lists);
  goes : (state : RefineState) → IsIn l.fn.stepper.model state l.fn.routes.lists l.fn.best.lists l.fn.stepper.words l.fn.at
      → GoesOn (λ w. (goal.Watch-dyn g (w.vtable, w.value)).after w.value) l.fn.stepper.model l.terms.ruin l.terms.limit
      (refined_from l.fn.stepper.model l.terms.ruin l.terms.limit (l.terms.limit.tries - l.fn.at.used) state)
      l.routes.lists l.best.lists l.stepper.words l.at l.fn.watch.items l.watch.items;
}

abbrev pub decreases-steps : goal.decreases-steps
decreases-steps g l = l.terms.limit.tries - l.at.used
