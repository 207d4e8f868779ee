-- The beginning and the end of a search in code beside its definition.
use Rattle.std.specs.Prelude.{◌≡◌, ℕ, List}
use Rattle.vr_model.specs.routes.Costs.{cost}
use Rattle.vr_model.specs.search.Outcomes.{Outcome}
use Rattle.vr_model.specs.declared.records.Model.{Model}
use Rattle.vr_model.specs.declared.search.Event.{Event}
use Rattle.vr_routes.specs.Judging.{HasCommitted}
use Rattle.vr_routes.specs.Tours.{Tours}
use Rattle.vr_watch.specs.Told.{Reported}
use Rattle.vr_app.specs.declared.best.Best.{Best}
use Rattle.vr_app.specs.declared.improving.FirstSolution.{FirstSolution}

-- a judge of the model has committed a first solution, and what this costs is known
pub record CanImprove (model : Model) (first : FirstSolution) (judged : Model)
    (committed : Tours → Type 0) : Type 0 where
  pub judge_model : judged ≡ model
  pub holds : HasCommitted model committed first.routes
  pub first_cost : first.cost ≡ cost model first.routes.lists

-- the best routes and the report are those of an outcome, and the routes have these visits
pub record IsBestOfOutcome (visits : List ℕ) (outcome : Outcome) (best : Best) : Type 0 where
  pub best_is : best.routes.lists ≡ outcome.best
  pub report_is : best.report ≡ outcome.report
  pub visits_are : best.routes.visits ≡ visits

-- the same, and each watcher was told the events of the outcome
pub record IsImproved {W : Type 0} (after : W → List Event → List ℕ) (visits : List ℕ) (outcome : Outcome)
    (old new : List W) (best : Best) : Type 0 where
  pub ends : IsBestOfOutcome visits outcome best
  pub told : Reported after old new outcome.events
