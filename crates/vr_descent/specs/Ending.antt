-- How a search in code begins and ends.
use Rattle.std.specs.Prelude.{◌≡◌, ℕ, ◌≤◌, List, IsTrue, ℤ, ◌≤ℤ◌}
use Rattle.vr_model.specs.routes.Costs.{cost}
use Rattle.vr_model.specs.routes.Rules.{is_valid}
use Rattle.vr_model.specs.search.Outcomes.{Outcome}
use Rattle.vr_model.specs.declared.records.End.{End}
use Rattle.vr_model.specs.declared.records.Model.{Model}
use Rattle.vr_model.specs.declared.records.Report.{Report}
use Rattle.vr_model.specs.declared.search.Event.{Event}
use Rattle.vr_model.specs.declared.search.Limit.{Limit}
use Rattle.vr_routes.specs.Tours.{Tours}
use Rattle.vr_watch.specs.Told.{Reported}
use Rattle.vr_descent.specs.Refused.{CanJudge}
use Rattle.vr_descent.specs.declared.incumbent.Incumbent.{Incumbent}
use Rattle.vr_descent.specs.declared.progress.Progress.{Progress}

-- a limit that a search may have
pub record IsSearchLimit (limit : Limit) : Type 0 where
  pub tries : limit.tries ≤ 1000000000
  pub one_solution : 1 ≤ limit.solutions
  pub solutions : limit.solutions ≤ 1000000000

-- a search may begin at these routes, within a limit that it may have: a judge has committed their lists, and their
-- cost is known
pub record CanBegin (model : Model) (routes : Tours) (total : ℤ) (allowed : Limit) (judged : Model)
    (committed : Tours → Type 0) : Type 0 where
  pub judge : CanJudge model routes judged committed
  pub first_cost : total ≡ cost model routes.lists
  pub limit : IsSearchLimit allowed

-- a search from the first routes to the last ones has ended as its definition says, with this report and these best
-- routes. The best are valid and cost no more than the first, the report is within the limit, and each watcher was told
-- of its events
pub record HasEnded {W : Type 0} (after : W → List Event → List ℕ) (model : Model) (limit : Limit) (outcome : Outcome)
    (from to : Tours) (old new : List W) (stated : Report) (chosen : Tours) : Type 0 where
  pub report : stated ≡ outcome.report
  pub last : to.lists ≡ outcome.last
  pub best : chosen.lists ≡ outcome.best
  pub told : Reported after old new outcome.events
  pub no_more_tries : stated.tries ≤ limit.tries
  pub some_solution : 1 ≤ stated.solutions
  pub no_more_solutions : stated.solutions ≤ limit.solutions
  pub best_is_valid : IsTrue (is_valid model chosen.lists)
  pub same_visits : chosen.visits ≡ from.visits
  pub no_dearer : cost model chosen.lists ≤ℤ cost model from.lists

-- the report of a search that ends at this state
abbrev pub report_of : Progress → End → Report
report_of at stop = record { tries = at.used; solutions = at.found; «end» = stop }

-- the outcome of a search that ends at this state, with these events
abbrev pub outcome_of : List (List ℕ) → Progress → Incumbent → End → List Event → Outcome
outcome_of lists at best stop events =
    record { last = lists; best = best.routes.lists; report = report_of at stop; events = events }

-- a search has gone on from somewhere to its end, and left this outcome. It is that of the end state, with the events
-- that each watcher was told on the way
pub record HasStopped {W : Type 0} (after : W → List Event → List ℕ) (left : Outcome) (lists : List (List ℕ))
    (at : Progress) (best : Incumbent) (old new : List W) (stop : End) : Type 0 where
  pub outcome : outcome_of lists at best stop left.events ≡ left
  pub told : Reported after old new left.events
