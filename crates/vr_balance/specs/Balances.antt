-- What comes into lists, and what goes out of them.
use Rattle.std.specs.Prelude.{◌≡◌, ◌≢◌, ℕ, ◌+◌, List, All, sum_by}
use Rattle.vr_routes.specs.Pieces.{nodes_of, IsWithin}
use Rattle.vr_routes.specs.declared.pieces.Piece.{Piece}

-- pieces of lists that come, and pieces that go
pub record Turnover : Type 0 where
  pub come : List Piece
  pub gone : List Piece

-- what f gives of each node of lists, added up
abbrev pub over_lists : (ℕ → ℕ) → List (List ℕ) → ℕ
over_lists f lists = sum_by (λ list. sum_by f list) lists

-- the same of pieces of lists
abbrev pub over_pieces : (ℕ → ℕ) → List (List ℕ) → List Piece → ℕ
over_pieces f lists pieces = sum_by (λ piece. sum_by f (nodes_of lists piece)) pieces

-- a piece is none of these
abbrev pub IsNoneOf : List Piece → Piece → Type 0
IsNoneOf pieces piece = All (λ other. piece ≢ other) pieces

-- the pieces lie within the lists, and none that comes goes too
pub record IsTurnover (lists : List (List ℕ)) (turnover : Turnover) : Type 0 where
  pub come : All (IsWithin lists) turnover.come
  pub gone : All (IsWithin lists) turnover.gone
  pub apart : All (IsNoneOf turnover.gone) turnover.come

-- with what comes and what goes, nodes became others, however often each of them is there
abbrev pub Became : List (List ℕ) → Turnover → Turnover → List ℕ → List ℕ → Type 0
Became lists before now old new = (f : ℕ → ℕ)
    → over_pieces f lists before.come + (over_pieces f lists now.gone + sum_by f new)
    ≡ over_pieces f lists now.come + (over_pieces f lists before.gone + sum_by f old)

-- the nodes of new lists and those that go are the nodes of the lists and those that come
pub record IsBalance (lists new : List (List ℕ)) (turnover : Turnover) : Type 0 where
  pub within : IsTurnover lists turnover
  pub balanced : (f : ℕ → ℕ) → over_lists f new + over_pieces f lists turnover.gone
      ≡ over_lists f lists + over_pieces f lists turnover.come
