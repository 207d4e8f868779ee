-- Pieces: runs of cumuls of a stop, with the greatest start from which each cumul is reached.
use Rattle.std.specs.Prelude.{◌≡◌, ◌^◌, ◌↔◌, Bool, false, ◌&&◌, ◌||◌, if◌then◌else◌, IsTrue, List, [], ◌∷◌, ℤ, pos}
use Rattle.std.specs.Prelude.{neg_ℤ, ◌+ℤ◌, ◌-ℤ◌, ◌≤ℤ◌, int_le, int_lt, Option, Some, None}
use Rattle.std.specs.Int.{int_max, int_min}
use Rattle.vr_spans.specs.declared.runs.Run.{Run}
use Rattle.vr_spans.specs.Runs.{has}
use Rattle.vr_model.specs.tables.Numbers.{horizon}
use Rattle.vr_model.specs.tables.WellFormed.{IsIn}
use Rattle.vr_steps.specs.declared.hops.Hop.{Hop}
use Rattle.vr_span.specs.declared.pieces.Piece.{Piece}

-- no number of a piece is above this one, and none is below its negative
abbrev pub piece_limit : ℤ
piece_limit = pos (2 ^ 38)

-- the greatest start from which x is reached, if x is a cumul of the piece
abbrev pub start_of : Piece → ℤ → ℤ
start_of piece x = int_min (piece.first +ℤ (x -ℤ piece.lo)) piece.last

-- the piece has the cumul x, reached from s or later
abbrev pub has_from : Piece → ℤ → ℤ → Bool
has_from piece s x = int_le piece.lo x && (int_le x piece.hi && int_le s (start_of piece x))

-- one of the pieces has the cumul x, reached from s or later
abbrev pub have_from : List Piece → ℤ → ℤ → Bool
have_from [] s x = false
have_from (piece ∷ pieces) s x = has_from piece s x || have_from pieces s x

-- the numbers of a piece. It has a cumul, none above top, and its starts rise by one with each cumul at most, up to the
-- horizon
pub record IsPiece (top : ℤ) (piece : Piece) : Type 0 where
  pub in_order : piece.lo ≤ℤ piece.hi
  pub greatest : piece.hi ≤ℤ top
  pub rises : piece.first ≤ℤ piece.last
  pub by_one : piece.last ≤ℤ (piece.first +ℤ (piece.hi -ℤ piece.lo))
  pub latest : piece.last ≤ℤ horizon

-- cumuls rise and starts do not fall from piece to piece: the first begins at b or later, and starts at s or later
abbrev pub IsRisingFrom : ℤ → ℤ → ℤ → List Piece → Type 0
IsRisingFrom top b s [] = Unit {0}
IsRisingFrom top b s (piece ∷ pieces) = (b ≤ℤ piece.lo) × (s ≤ℤ piece.first) × IsPiece top piece
    × IsRisingFrom top (piece.hi +ℤ pos 1) piece.last pieces

-- pieces of the cumuls of a stop
abbrev pub ArePieces : List Piece → Type 0
ArePieces pieces = IsRisingFrom horizon (pos 0) (pos 0) pieces

-- the number is near enough for sums
abbrev pub IsNearNumber : ℤ → Type 0
IsNearNumber x = IsIn (neg_ℤ piece_limit) piece_limit x

-- the numbers of the piece are near enough for sums
pub record IsNear (piece : Piece) : Type 0 where
  pub lo : IsNearNumber piece.lo
  pub hi : IsNearNumber piece.hi
  pub first : IsNearNumber piece.first
  pub last : IsNearNumber piece.last

-- the piece of a run of a start: each cumul is reached from itself
abbrev pub begin_of : Run → Piece
begin_of run = record { lo = run.lo; hi = run.hi; first = run.lo; last = run.hi }

-- the pieces have the cumuls of a set, each from itself and all starts before
abbrev pub Begin : List Run → List Piece → Type 0
Begin set pieces = (s x : ℤ) → IsTrue (have_from pieces s x) ↔ (IsTrue (has set x) × (s ≤ℤ x))

-- what is left of a piece in a run
abbrev pub within_run : Run → Piece → Piece
within_run run piece =
    let lo = int_max piece.lo run.lo in
    let hi = int_min piece.hi run.hi in
    record { lo = lo; hi = hi; first = start_of piece lo; last = start_of piece hi }

-- the piece alone if it has a cumul, and else none
abbrev pub piece_if_any : Piece → List Piece
piece_if_any piece = if int_le piece.lo piece.hi then piece ∷ [] else []

-- what a piece leads to over an arc, if until is the last cumul before the next piece
abbrev pub moved_piece : Hop → ℤ → Piece → Piece
moved_piece hop until piece = record {
  lo = piece.lo +ℤ hop.transit;
  hi = int_min (piece.hi +ℤ hop.slack) until +ℤ hop.transit;
  first = piece.first;
  last = piece.last;
}

-- the last cumul before the first of the pieces
abbrev pub until_of : List Piece → ℤ
until_of [] = piece_limit
until_of (piece ∷ pieces) = piece.lo -ℤ pos 1

-- what pieces lead to over an arc
abbrev pub pieces_behind : Hop → List Piece → List Piece
pieces_behind hop [] = []
pieces_behind hop (piece ∷ pieces) = moved_piece hop (until_of pieces) piece ∷ pieces_behind hop pieces

-- the pieces are those of the cumuls of a set to which an arc leads from other pieces, reached from the same starts
abbrev pub Arrive : Hop → List Piece → List Run → List Piece → Type 0
Arrive hop from next pieces = (s x : ℤ) → IsTrue (have_from pieces s x)
    ↔ (IsTrue (has next x) × ((y : ℤ) × IsTrue (have_from from s y) × ((y +ℤ hop.transit) ≤ℤ x)
    × (x ≤ℤ (y +ℤ (hop.transit +ℤ hop.slack)))))

-- how long a way is at least that ends in a piece
abbrev pub span_of : Piece → ℤ
span_of piece = piece.lo -ℤ piece.first

-- the piece of the lesser span, and of equal spans the one in front
abbrev pub shorter_of : Piece → Option Piece → Piece
shorter_of piece None = piece
shorter_of piece (Some other) = if int_lt (span_of other) (span_of piece) then other else piece

-- the first of the pieces of the least span
abbrev pub shortest_of : List Piece → Option Piece
shortest_of [] = None
shortest_of (piece ∷ pieces) = Some (shorter_of piece (shortest_of pieces))

-- the first cumul of the piece and its first start lie in 0..=horizon
pub record BeginsInHorizon (piece : Piece) : Type 0 where
  pub cumul : IsIn (pos 0) horizon piece.lo
  pub start : IsIn (pos 0) horizon piece.first

-- the piece is a shortest among pieces. One of them has its first cumul, reached from its first start or later, and
-- both lie in 0..=horizon. No cumul of the pieces is reached on a lesser span, and none on this one from a lesser start
pub record IsShortest (pieces : List Piece) (piece : Piece) : Type 0 where
  pub among : IsTrue (have_from pieces piece.first piece.lo)
  pub least : (s x : ℤ) → IsTrue (have_from pieces s x) → span_of piece ≤ℤ (x -ℤ s)
  pub earliest : (s x : ℤ) → IsTrue (have_from pieces s x) → (x -ℤ s) ≡ span_of piece → piece.first ≤ℤ s
  pub ends : BeginsInHorizon piece
