-- How a search in code has ended, by how it went on.
use Rattle.std.proofs.Common.{◌≡◌, ◌∙◌, ℕ, List, sym, ap, subst, arith}
use Rattle.std.specs.Prelude.{◌≤ℤ◌}
use Rattle.std.proofs.lemmas.Int.{ints}
use Rattle.vr_model.specs.routes.Costs.{cost}
use Rattle.vr_model.specs.search.Outcomes.{Outcome, ended}
use Rattle.vr_model.specs.declared.records.End.{End}
use Rattle.vr_model.specs.declared.records.Model.{Model}
use Rattle.vr_model.specs.declared.records.Report.{Report}
use Rattle.vr_model.specs.declared.search.Event.{Event}
use Rattle.vr_model.specs.declared.search.Limit.{Limit}
use Rattle.vr_routes.specs.Judging.{HasCommitted}
use Rattle.vr_routes.specs.Tours.{Tours}
use Rattle.vr_descent.specs.Ending.{HasEnded, HasStopped, outcome_of, report_of}
use Rattle.vr_descent.specs.Incumbents.{IsUnderWay}
use Rattle.vr_descent.specs.Searching.{standing}
use Rattle.vr_descent.specs.declared.incumbent.Incumbent.{Incumbent}
use Rattle.vr_descent.specs.declared.progress.Progress.{Progress}
use Rattle.vr_descent.proofs.GoingOn.{Goes, ends_within, goes_to_end}

-- a search that has come to its end has stopped there
pub stops : {W : Type 0} (after : W → List Event → List ℕ) (left : Outcome)
    (lists : List (List ℕ)) (at : Progress) (best : Incumbent) (old new : List W) (stop : End)
    → Goes after left (ended (standing lists best.routes.lists at.used at.found) stop) old new → HasStopped after left lists at best old new stop
stops after left lists at best old new stop goes = record {
  outcome = ap (outcome_of lists at best stop) (ap (λ o. o.events) goes.outcome) ∙ sym goes.outcome;
  told = goes_to_end after left (standing lists best.routes.lists at.used at.found) stop old new goes;
}

-- a search has ended where what was left of it has, behind what was told before
pub has_ended : {W : Type 0} (after : W → List Event → List ℕ) (model : Model) (limit : Limit) (whole left : Outcome) (from to : Tours)
    (a b c : List W) (at : Progress) (first best : Incumbent) (held judged : Tours → Type 0) (stop : End) (stated : Report)
    → Goes after whole left a b → HasStopped after left to.lists at best b c stop → HasCommitted model held from → IsUnderWay model limit judged to at best
    → first.cost ≡ cost model from.lists → best.cost ≤ℤ first.cost → stated ≡ report_of at stop
    → HasEnded after model limit whole from to a c stated best.routes
has_ended after model limit whole left from to a b c at first best held judged stop stated goes stopped begun going first_cost less stated_is =
    subst (λ r. HasEnded after model limit whole from to a c r best.routes) (sym stated_is)
    (record {
      report = ap (λ o. o.report) stopped.outcome ∙ sym (ap (λ o. o.report) goes.outcome);
      last = ap (λ o. o.last) stopped.outcome ∙ sym (ap (λ o. o.last) goes.outcome);
      best = ap (λ o. o.best) stopped.outcome ∙ sym (ap (λ o. o.best) goes.outcome);
      told = ends_within after whole left a b c goes stopped.told;
      no_more_tries = going.used;
      some_solution = going.some;
      no_more_solutions = going.found;
      best_is_valid = going.best.valid;
      same_visits = going.best.same_visits ∙ (going.holds.of_model ∙ sym begun.of_model);
      no_dearer = (let costs = going.best.costs in omega (arith, ints, costs, less, first_cost));
    })
