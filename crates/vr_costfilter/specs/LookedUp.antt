-- What is looked up of a dimension.
use Rattle.std.specs.Prelude.{◌<◌, ℕ, length}
use Rattle.vr_model.specs.declared.records.Model.{Model}
use Rattle.vr_plan.specs.Tables.{IsTable}
use Rattle.vr_plan.specs.declared.tables.Table.{Table}

-- a model has a dimension d, and this table is what is looked up of it
pub record IsLookedUp (model : Model) (d : ℕ) (table : Table) : Type 0 where
  pub dimension : d < length model.dimensions
  pub told : IsTable model d table
