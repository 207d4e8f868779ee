-- What is looked up of a vehicle in a dimension.
use Rattle.std.specs.Prelude.{◌≡◌, ◌<◌, ℕ, length}
use Rattle.vr_model.specs.tables.Tables.{dimension_at, evaluator_of}
use Rattle.vr_model.specs.tables.WellFormed.{IsWellFormed}
use Rattle.vr_model.specs.declared.records.Evaluator.{Evaluator}
use Rattle.vr_model.specs.declared.records.Model.{Model}
use Rattle.vr_earliest.specs.Floors.{AreFloors}
use Rattle.vr_earliest.specs.declared.floors.Floors.{Floors}

-- these are the floors of dimension d of a well formed model, and the evaluator of vehicle v there
pub record IsGuide (model : Model) (d v : ℕ) (floors : Floors) (evaluator : Evaluator) : Type 0 where
  pub well_formed : IsWellFormed model
  pub dimension : d < length model.dimensions
  pub vehicle : v < length model.vehicles
  pub floors_are : AreFloors model d floors
  pub evaluator_is : evaluator ≡ evaluator_of (dimension_at model d) v
