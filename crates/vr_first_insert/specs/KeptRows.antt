-- What is kept of lists in each dimension.
use Rattle.std.specs.Prelude.{◌≡◌, ℕ, ◌+◌, ◌<◌, ◌≤◌, List, length, slice_index_or}
use Rattle.vr_model.specs.routes.Routes.{route}
use Rattle.vr_model.specs.declared.records.Model.{Model}
use Rattle.vr_reach.specs.Rows.{BothWays}
use Rattle.vr_reach.specs.KnownRows.{AreRowsIfUsed}
use Rattle.vr_reach.specs.Lists.{IsTour, IsUsed}
use Rattle.vr_reach.specs.Stretches.{SharesBack, SharesFront}
use Rattle.vr_first_insert.specs.declared.list_rows.ListRows.{ListRows}
use Rattle.vr_first_insert.specs.declared.vehicle_list.LookedUpList.{LookedUpList}

-- the model whose lists are asked
abbrev pub list_model : LookedUpList → Model
list_model list = list.lookups.now.closed.model.now

-- each list holds distinct visits
abbrev pub AreAllTours : Model → List (List ℕ) → Type 0
AreAllTours model lists = (v : ℕ) → v < length lists → IsTour model (route lists v)

-- the rows of each vehicle are those of its list
abbrev pub AreRowsOfEach : Model → ℕ → List (List ℕ) → List BothWays → Type 0
AreRowsOfEach model d lists rows = (v : ℕ) (other : BothWays) → v < length rows
    → AreRowsIfUsed model d v (route lists v) (slice_index_or rows v other)

-- the rows that are kept in dimension d are those of the lists
pub record AreKeptRowsIn (model : Model) (d : ℕ) (lists : List (List ℕ)) (kept : ListRows) : Type 0 where
  pub many : length kept.rows.items ≡ length lists
  pub rows_of_each : AreRowsOfEach model d lists kept.rows.items

-- those of vehicle v are those of its list
pub record IsKeptOf (model : Model) (d v : ℕ) (list : List ℕ) (kept : ListRows) : Type 0 where
  pub there : v < length kept.rows.items
  pub rows_of_list : (other : BothWays) → AreRowsIfUsed model d v list (slice_index_or kept.rows.items v other)

-- the rows that are kept in each dimension are those of the lists
pub record AreKeptRows (model : Model) (lists : List (List ℕ)) (list_rows : List ListRows) : Type 0 where
  pub one_of_each : length list_rows ≡ length model.dimensions
  pub each : (d : ℕ) (other : ListRows) → d < length list_rows
      → AreKeptRowsIn model d lists (slice_index_or list_rows d other)

-- in each dimension those of vehicle v are those of its list
pub record AreKeptOf (model : Model) (v : ℕ) (list : List ℕ) (list_rows : List ListRows) : Type 0 where
  pub one_of_each : length list_rows ≡ length model.dimensions
  pub each : (d : ℕ) (other : ListRows) → d < length list_rows
      → IsKeptOf model d v list (slice_index_or list_rows d other)

-- a list may be walked between its first and its last nodes: it shares these with the one before, whose rows are kept
pub record MayGoBetween (old : LookedUpList) (new : List ℕ) (first last : ℕ) (list_rows : List ListRows) : Type 0 where
  pub kept : AreKeptOf (list_model old) old.vehicle old.nodes.now list_rows
  pub used : IsUsed (list_model old) new
  pub front : SharesFront old.nodes.now new first
  pub back : SharesBack old.nodes.now new last
  pub apart : first + last ≤ length new
