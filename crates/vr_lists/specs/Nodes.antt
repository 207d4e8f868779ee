-- What is looked up once of the nodes of a model: the group and the pair of each, and the vehicles that may
-- visit it.
use Rattle.std.specs.Prelude.{◌≡◌, ℕ, ◌<◌, Bool, false, cond, ◌||◌, ◌==◌, List, [], length, slice_index_or, None}
use Rattle.std.specs.List.{position_or_len}
use Rattle.vr_model.specs.routes.Routes.{holds}
use Rattle.vr_model.specs.tables.WellFormed.{IsWellFormed}
use Rattle.vr_model.specs.declared.records.Model.{Model}
use Rattle.vr_model.specs.declared.records.Group.{Group}
use Rattle.vr_model.specs.declared.records.Allowed.{Allowed}

-- the number of the group of a node, that of all groups if it is in none
abbrev pub group_number : Model → ℕ → ℕ
group_number model node = position_or_len (λ group. holds group.nodes node) model.groups

abbrev pub no_group : Group
no_group = record { nodes = []; penalty = None; max = 0 }

-- the group of a number
abbrev pub group_at : Model → ℕ → Group
group_at model g = slice_index_or model.groups g no_group

-- the number that is kept of a node
abbrev pub node_number : List ℕ → ℕ → ℕ
node_number numbers node = slice_index_or numbers node 0

-- each node has the number of its group
pub record AreNumbers (model : Model) (numbers : List ℕ) : Type 0 where
  pub long : length numbers ≡ model.nodes
  pub each : (node : ℕ) → node < model.nodes → node_number numbers node ≡ group_number model node

-- the number of the row of a node among the rows of allowed vehicles, that of all rows if it has none
abbrev pub row_number : Model → ℕ → ℕ
row_number model node = position_or_len (λ row. row.node == node) model.allowed

-- the number of the pair of a node, that of all pairs if it is in none
abbrev pub pair_number : Model → ℕ → ℕ
pair_number model node = position_or_len (λ pair. (pair.pickup == node) || (pair.delivery == node)) model.pairs

-- each of this many nodes has the number that is its
pub record AreNumbersBy (number : ℕ → ℕ) (nodes : ℕ) (numbers : List ℕ) : Type 0 where
  pub long : length numbers ≡ nodes
  pub each : (node : ℕ) → node < nodes → node_number numbers node ≡ number node

-- the vehicles of a row are marked
abbrev pub AreMarksOf : Allowed → List Bool → Type 0
AreMarksOf row marks = (v : ℕ) → slice_index_or marks v false ≡ holds row.vehicles v

-- the vehicles of each row are marked
pub record AreRowMarks (model : Model) (marks : List (List Bool)) : Type 0 where
  pub one_of_each : length marks ≡ length model.allowed
  pub each : (k : ℕ) (other : Allowed) → k < length model.allowed
      → AreMarksOf (slice_index_or model.allowed k other) (slice_index_or marks k [])

-- the tables are those of the nodes of the model, which is well formed
pub record AreNodeTables (model : Model) (groups pairs rows : List ℕ) (marks : List (List Bool)) : Type 0 where
  pub well_formed : IsWellFormed model
  pub groups_are : AreNumbers model groups
  pub pairs_are : AreNumbersBy (pair_number model) model.nodes pairs
  pub rows_are : AreNumbersBy (row_number model) model.nodes rows
  pub marks_are : AreRowMarks model marks

-- the values after one was written at some places
abbrev pub AreWritten : {A : Type 0} → List A → List ℕ → A → List A → Type 0
AreWritten before places value after = (k : ℕ) (d : _) → k < length before
    → slice_index_or after k d ≡ cond (holds places k) value (slice_index_or before k d)
