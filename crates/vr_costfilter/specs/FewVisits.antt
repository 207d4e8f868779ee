-- The visits that the vehicle of a guide gets.
use Rattle.std.specs.Prelude.{◌≤◌, ℕ, All, Bool, IsTrue, List, cond, length, reverse}
use Rattle.vr_model.specs.tables.Tables.{is_visit}
use Rattle.vr_model.specs.declared.records.Model.{Model}
use Rattle.vr_routes.specs.Pieces.{joined, nodes_of, IsWithin}
use Rattle.vr_routes.specs.declared.pieces.Piece.{Piece}

-- at most 1000 visits of a model
pub record AreFewVisits (model : Model) (list : List ℕ) : Type 0 where
  pub few : length list ≤ 1000
  pub visits : All (λ node. IsTrue (is_visit model node)) list

-- the nodes of a chain, or of the chain backwards
abbrev pub in_order : Bool → List ℕ → List ℕ
in_order reversed chain = cond reversed (reverse chain) chain

-- a piece lies within its list, and has at most 1000 visits
pub record IsPieceOf (model : Model) (lists : List (List ℕ)) (piece : Piece) : Type 0 where
  pub within : IsWithin lists piece
  pub nodes : AreFewVisits model (nodes_of lists piece)

-- the same of pieces one after another
pub record ArePiecesOf (model : Model) (lists : List (List ℕ)) (pieces : List Piece) : Type 0 where
  pub within : All (IsWithin lists) pieces
  pub nodes : AreFewVisits model (joined lists pieces)
