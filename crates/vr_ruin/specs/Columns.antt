-- The columns of the cost matrices, each kept in a row.
use Rattle.std.specs.Prelude.{◌≡◌, ℕ, ◌<◌, ◌^◌, List, length, slice_index_or, ℤ, neg_ℤ, pos, ◌≤ℤ◌}
use Rattle.vr_model.specs.tables.Tables.{entry, vehicle_at}
use Rattle.vr_model.specs.declared.records.Model.{Model}
use Rattle.vr_ruin.specs.declared.columns.MatrixColumns.{MatrixColumns}

-- the entry of matrix m from node i to node x
pub record IsEntry (model : Model) (m i x : ℕ) (value : ℤ) : Type 0 where
  pub is : value ≡ entry model m i x
  pub low : neg_ℤ (pos (2 ^ 30)) ≤ℤ value
  pub high : value ≤ℤ pos (2 ^ 40)

-- column x of matrix m: its entries to node x, from each node
pub record IsColumn (model : Model) (m x : ℕ) (column : List ℤ) : Type 0 where
  pub many : length column ≡ model.nodes
  pub each : (i : ℕ) (other : ℤ) → i < length column → IsEntry model m i x (slice_index_or column i other)

-- the columns of matrix m
pub record AreColumnsOf (model : Model) (m : ℕ) (columns : List (List ℤ)) : Type 0 where
  pub many : length columns ≡ model.nodes
  pub each : (x : ℕ) (other : List ℤ) → x < length columns → IsColumn model m x (slice_index_or columns x other)

-- the columns of all matrices
pub record AreColumns (model : Model) (all : List MatrixColumns) : Type 0 where
  pub many : length all ≡ length model.matrices
  pub each : (m : ℕ) (other : MatrixColumns) → m < length all
      → AreColumnsOf model m (slice_index_or all m other).columns.items

-- what the arcs to node x cost vehicle v, from each node
abbrev pub AreArcsTo : Model → ℕ → ℕ → List ℤ → Type 0
AreArcsTo model v x costs = IsColumn model (vehicle_at model v).costs x costs
