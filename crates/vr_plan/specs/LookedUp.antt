-- What is looked up once of a model, for all that ask it.
use Rattle.std.specs.Prelude.{◌≡◌, List}
use Rattle.vr_model.specs.tables.WellFormed.{IsWellFormed}
use Rattle.vr_model.specs.declared.records.Model.{Model}
use Rattle.vr_plan.specs.Tables.{AreTables}
use Rattle.vr_plan.specs.declared.tables.Table.{Table}

-- the model is well formed, the tables are those of its dimensions, and what was looked up of nodes is of the model
pub record AreLookedUp (model : Model) (tables : List Table) (nodes : Model) : Type 0 where
  pub well_formed : IsWellFormed model
  pub of_dimensions : AreTables model tables
  pub of_nodes : nodes ≡ model
