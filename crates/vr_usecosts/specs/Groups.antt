-- The penalties of groups.
use Rattle.std.specs.Prelude.{◌≡◌, ℕ, ◌<◌, Bool, nat_lt, IsTrue, cond, List, [], ◌∷◌, length, Option, Some, None}
use Rattle.std.specs.Prelude.{ℤ, pos, negsuc, ◌-ℤ◌, ◌≤ℤ◌}
use Rattle.std.specs.List.{list_any}
use Rattle.vr_model.specs.tables.Numbers.{number_at, total_by}
use Rattle.vr_model.specs.tables.Tables.{visits}
use Rattle.vr_model.specs.moves.Moves.{apply}
use Rattle.vr_model.specs.moves.MoveTests.{is_move}
use Rattle.vr_model.specs.routes.Routes.{holds}
use Rattle.vr_model.specs.routes.Costs.{penalty_part}
use Rattle.vr_model.specs.routes.Rules.{is_valid}
use Rattle.vr_model.specs.tables.WellFormed.{IsWellFormed}
use Rattle.vr_model.specs.declared.records.Model.{Model}
use Rattle.vr_model.specs.declared.records.Group.{Group}
use Rattle.vr_model.specs.declared.neighbours.Move.{Move}
use Rattle.vr_routes.specs.Pieces.{nodes_of}
use Rattle.vr_routes.specs.Tours.{Tours}
use Rattle.vr_routes.specs.declared.pieces.Piece.{Piece}
use Rattle.vr_balance.specs.Sums.{IsUpTo}

-- what an active node of a group saves
abbrev pub pay : Option ℤ → ℕ
pay None = 0
pay (Some (pos penalty)) = penalty
pay (Some (negsuc n)) = 0

-- a group has a penalty that is not 0
abbrev pub has_penalty : Group → Bool
has_penalty group = nat_lt 0 (pay group.penalty)

-- some group has a penalty that is not 0
abbrev pub is_some_paid : Model → Bool
is_some_paid model = list_any has_penalty model.groups

-- what a node saves if it is active: the penalty of the first group that has it, 0 if there is none
abbrev pub saved_by : List Group → ℕ → ℕ
saved_by [] node = 0
saved_by (group ∷ groups) node = cond (holds group.nodes node) (pay group.penalty) (saved_by groups node)

-- if a move is one of the lists, and the lists after it are valid, the penalties are lower by this much after it
abbrev pub Saves : Model → List (List ℕ) → Move → ℤ → Type 0
Saves model lists mv saved =
    IsTrue (is_move model lists mv) → IsTrue (is_valid model (apply model lists mv))
    → penalty_part model lists -ℤ penalty_part model (apply model lists mv) ≡ saved

-- the same, lower by this much at most
abbrev pub SavesAtMost : Model → List (List ℕ) → Move → ℤ → Type 0
SavesAtMost model lists mv saved =
    IsTrue (is_move model lists mv) → IsTrue (is_valid model (apply model lists mv))
    → (penalty_part model lists -ℤ penalty_part model (apply model lists mv)) ≤ℤ saved

-- what contracts see of the penalties
pub record KeptGroups : Type 0 where
  pub model : Model
  pub saved : List ℤ
  pub most : ℤ
  pub pays : Bool
  pub total : ℤ

-- each node has what it saves
pub record AreSaved (model : Model) (saved : List ℤ) : Type 0 where
  pub long : length saved ≡ model.nodes
  pub each : (node : ℕ) → node < model.nodes → number_at saved node ≡ pos (saved_by model.groups node)

-- no node saves more than `most`, which is the penalty of one group at most
pub record IsMost (saved : List ℤ) (most : ℤ) : Type 0 where
  pub each : (node : ℕ) → node < length saved → number_at saved node ≤ℤ most
  pub range : IsUpTo 1 most

-- each is the penalty of one group at most
abbrev pub AreFew : List ℤ → Type 0
AreFew saved = (node : ℕ) → IsUpTo 1 (number_at saved node)

-- what some nodes come to: a penalty for each of 1000 nodes at most
abbrev pub IsForNodes : ℤ → Type 0
IsForNodes = IsUpTo 1000

-- what the nodes of pieces come to: a penalty for each of 1000 nodes at most of 18 pieces at most
abbrev pub IsForPieces : ℤ → Type 0
IsForPieces = IsUpTo 18000

-- what the nodes of pieces save
abbrev pub saved_in : List ℤ → List (List ℕ) → List Piece → ℤ
saved_in saved lists pieces = total_by (λ piece. total_by (number_at saved) (nodes_of lists piece)) pieces

-- these are valid lists of the model, each node has what it saves, and the total is what the groups cost. It is said
-- what a node saves at most, and whether some group has a penalty other than 0.
pub record StandsGroups (kept : KeptGroups) (tours : Tours) : Type 0 where
  pub well_formed : IsWellFormed kept.model
  pub of_model : tours.visits ≡ visits kept.model
  pub valid : IsTrue (is_valid kept.model tours.lists)
  pub saved_are : AreSaved kept.model kept.saved
  pub most_is : IsMost kept.saved kept.most
  pub pays_is : kept.pays ≡ is_some_paid kept.model
  pub total_is : kept.total ≡ penalty_part kept.model tours.lists
