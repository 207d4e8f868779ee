-- The best of a search in code beside what was found.
use Rattle.std.specs.Prelude.{◌≡◌, ℤ}
use Rattle.vr_model.specs.routes.Costs.{cost}
use Rattle.vr_model.specs.tables.Tables.{visits}
use Rattle.vr_model.specs.declared.records.Model.{Model}
use Rattle.vr_app.specs.Endings.{IsBestOfOutcome}
use Rattle.vr_app.specs.declared.best.Best.{Best}
use Rattle.vr_app.specs.Found.{Found}

-- the best is that of the search that was found for a model, whose first solution has this cost
pub record IsBestOf (model : Model) (found : Found) (first_cost : ℤ) (best : Best) : Type 0 where
  pub ends : IsBestOfOutcome (visits model) found.outcome best
  pub first_cost_is : first_cost ≡ cost model found.first
