-- What holds of all that is read: numbers lie in their ranges.
use Rattle.std.specs.Prelude.{ℕ, ◌≤◌, ℤ, pos, negsuc, ◌≤ℤ◌, All}
use Rattle.vr_model.specs.tables.WellFormed.{WherePresent}
use Rattle.vr_tsplib.specs.declared.heads.Head.{Head}
use Rattle.vr_tsplib.specs.declared.section_rows.SiteRow.{SiteRow}
use Rattle.vr_tsplib.specs.declared.section_rows.DemandRow.{DemandRow}
use Rattle.vr_tsplib.specs.declared.files.State.{State}
use Rattle.vr_tsplib.specs.declared.summaries.Problem.{Problem}
use Rattle.vr_tsplib.specs.Heads.{nodes_of}

abbrev pub IsCountIn : ℕ → ℕ → ℕ → Type 0
IsCountIn lo hi n = (lo ≤ n) × (n ≤ hi)

-- the numbers of a head
pub record IsHeadInRange (head : Head) : Type 0 where
  pub nodes : WherePresent (IsCountIn 1 1000) head.nodes
  pub capacity : WherePresent (IsCountIn 0 68719476736) head.capacity
  pub depot : WherePresent (IsCountIn 1 (nodes_of head)) head.depot

-- the coordinates of a node
pub record IsSiteInRange (row : SiteRow) : Type 0 where
  pub x_least : negsuc 999999 ≤ℤ row.x
  pub x_most : row.x ≤ℤ pos 1000000
  pub y_least : negsuc 999999 ≤ℤ row.y
  pub y_most : row.y ≤ℤ pos 1000000

-- a demand and a weight
abbrev pub IsFew : DemandRow → Type 0
IsFew row = row.demand ≤ 1073741824

abbrev pub IsLight : ℕ → Type 0
IsLight weight = weight ≤ 1099511627776

-- all that lines said
pub record AreLinesInRange (state : State) : Type 0 where
  pub head : IsHeadInRange state.head
  pub sites : All IsSiteInRange state.sites
  pub demands : All IsFew state.demands
  pub weights : All IsLight state.weights

-- the numbers of a whole file
pub record IsProblem (problem : Problem) : Type 0 where
  pub nodes : IsCountIn 1 1000 problem.nodes
  pub capacity : problem.capacity ≤ 68719476736
  pub depot : IsCountIn 1 problem.nodes problem.depot
