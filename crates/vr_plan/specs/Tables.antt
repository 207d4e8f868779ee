-- What is looked up once of each dimension of a model.
use Rattle.std.specs.Prelude.{◌≡◌, ℕ, ◌<◌, IsTrue, List, length, map, slice_index_or}
use Rattle.vr_model.specs.tables.Tables.{dimension_at}
use Rattle.vr_model.specs.tables.WellFormed.{IsWellFormed}
use Rattle.vr_model.specs.declared.records.Model.{Model}
use Rattle.vr_model.specs.declared.records.StopRow.{StopRow}
use Rattle.vr_reach.specs.Stops.{AreStops}
use Rattle.vr_plan.specs.Paying.{is_free, is_hard, CostsNoSoft, PaysNothing}
use Rattle.vr_lists.specs.Places.{ArePlaces}
use Rattle.vr_plan.specs.declared.tables.KnownDimension.{KnownDimension}
use Rattle.vr_plan.specs.declared.tables.Table.{Table}

-- the keys of rows
abbrev pub keys_of : List StopRow → List ℕ
keys_of rows = map (λ row. row.key) rows

-- what is looked up of dimension d. It has what the stops ask, and for each node the place of its row. It tells whether
-- the dimension is free: then no list pays anything by itself. It tells whether no stop has a soft upper bound: then
-- these cost no list anything
pub record IsTable (model : Model) (d : ℕ) (table : Table) : Type 0 where
  pub stops_ask : AreStops model d table.stops
  pub places : ArePlaces model.nodes (keys_of (dimension_at model d).nodes) table.row_places.items
  pub is_free : table.is_free ≡ is_free (dimension_at model d)
  pub is_hard : table.is_hard ≡ is_hard (dimension_at model d)
  pub free : IsTrue table.is_free → (v : ℕ) (list : List ℕ) → PaysNothing (dimension_at model d) v list
  pub hard : IsTrue table.is_hard → CostsNoSoft (dimension_at model d)

-- what is looked up of each dimension of a model
pub record AreTables (model : Model) (tables : List Table) : Type 0 where
  pub one_of_each : length tables ≡ length model.dimensions
  pub each : (d : ℕ) (other : Table) → d < length tables → IsTable model d (slice_index_or tables d other)

-- a dimension of a well formed model, and its table
pub record IsKnownDimension (known : KnownDimension) : Type 0 where
  pub well_formed : IsWellFormed known.model.now
  pub dimension : known.d < length known.model.now.dimensions
  pub table : IsTable known.model.now known.d known.table.now
