-- The cumuls that visits allow, in a table for each capacity.
use Rattle.std.specs.Prelude.{◌≡◌, ℕ, ◌<◌, Bool, false, IsTrue, List, [], length, slice_index_or, ℤ}
use Rattle.vr_spans.specs.declared.runs.Run.{Run}
use Rattle.vr_spans.specs.Runs.{IsNormal}
use Rattle.vr_model.specs.tables.Numbers.{number_at}
use Rattle.vr_model.specs.tables.Tables.{dimension_at, is_visit, row_of}
use Rattle.vr_model.specs.schedules.Lines.{stop_allows}
use Rattle.vr_model.specs.declared.records.Model.{Model}
use Rattle.vr_steps.specs.Levels.{HasNumbers, IsCumuls}
use Rattle.vr_reach.specs.declared.visits.VisitSets.{VisitSets}

-- the set has the cumuls that pass the test, which lie in 0..=horizon, in its normal form
pub record IsSetOf (test : ℤ → Bool) (set : List Run) : Type 0 where
  pub exact : HasNumbers test set
  pub cumuls : IsCumuls set
  pub normal : IsNormal set

-- the set of a node has the cumuls that it allows under a capacity if it is a visit, and none if it is not
pub record IsSetOfNode (model : Model) (d : ℕ) (capacity : ℤ) (node : ℕ) (set : List Run) : Type 0 where
  pub visit : IsTrue (is_visit model node)
      → IsSetOf (stop_allows capacity (row_of (dimension_at model d).nodes node)) set
  pub other : is_visit model node ≡ false → set ≡ []

-- the sets of the nodes have, for each visit, the cumuls that it allows under a capacity, and no others
pub record AreSetsUnder (model : Model) (d : ℕ) (capacity : ℤ) (sets : List (List Run)) : Type 0 where
  pub long : length sets ≡ model.nodes
  pub each : (node : ℕ) → IsSetOfNode model d capacity node (slice_index_or sets node [])

-- the capacity of vehicle v in dimension d
abbrev pub capacity_of : Model → ℕ → ℕ → ℤ
capacity_of model d v = number_at (dimension_at model d).capacities v

-- the sets of the nodes have, for each visit, the cumuls that it allows vehicle v
abbrev pub AreVisitSets : Model → ℕ → ℕ → List (List Run) → Type 0
AreVisitSets model d v sets = AreSetsUnder model d (capacity_of model d v) sets

-- table k has what visits allow under its capacity
abbrev pub IsTableUnder : Model → ℕ → List ℤ → List (List (List Run)) → ℕ → Type 0
IsTableUnder model d capacities tables k =
    AreSetsUnder model d (number_at capacities k) (slice_index_or tables k [])

-- a table for each capacity
pub record AreTablesUnder (model : Model) (d : ℕ) (capacities : List ℤ) (tables : List (List (List Run))) : Type 0 where
  pub one_of_each : length tables ≡ length capacities
  pub each : (k : ℕ) → k < length tables → IsTableUnder model d capacities tables k

-- table k is that of the capacity of vehicle v
pub record IsTableOf (model : Model) (d v : ℕ) (capacities : List ℤ) (k : ℕ) : Type 0 where
  pub there : k < length capacities
  pub same : number_at capacities k ≡ capacity_of model d v

-- tables, and for each of the first n vehicles that of its capacity
pub record AreSets (model : Model) (d n : ℕ) (sets : VisitSets) : Type 0 where
  pub tables : AreTablesUnder model d sets.capacities sets.tables
  pub one_of_each : length sets.table_of ≡ n
  pub each : (v : ℕ) → v < n → IsTableOf model d v sets.capacities (slice_index_or sets.table_of v 0)
