-- Lists after a change, as pieces of the lists before it.
use Rattle.std.proofs.Props.{props}
use mathlib.Core.HLevel.{Unit-prop}
use Rattle.std.specs.Prelude.{◌≡◌, ℕ, ◌+◌, ◌-◌, ◌<◌, ◌≤◌, cond, List, [], ◌∷◌, ◌++◌, length, take, drop, reverse, All}
use Rattle.std.specs.Prelude.{slice_range, slice_index_or}
use Rattle.vr_model.specs.tables.Numbers.{each}
use Rattle.vr_model.specs.routes.Routes.{route}
use Rattle.vr_model.specs.moves.Moves.{with_route}
use Rattle.vr_routes.specs.declared.pieces.Piece.{Piece}
use Rattle.vr_routes.specs.declared.pieces.Piece.TheVariants.{Chain, Node}

-- the pieces of the list of a vehicle. The first one is its front before the change, up to place `front`. The last one
-- is its end, from place `behind` on
pub record ListAfter : Type 0 where
  pub vehicle : ℕ
  pub pieces : List Piece
  pub front : ℕ
  pub behind : ℕ

-- the pieces between the first and the last one
abbrev pub middle_of : List Piece → List Piece
middle_of pieces = slice_range pieces 1 (length pieces - 1)

-- the pieces of a list have a first one, and a last one that is another
abbrev pub HasEnds : ListAfter → Type 0
HasEnds part = 2 ≤ length part.pieces

-- the nodes of a piece of these lists
abbrev pub nodes_of : List (List ℕ) → Piece → List ℕ
nodes_of lists (Chain v from to reversed) =
    let chain = slice_range (route lists v) from to in
    cond reversed (reverse chain) chain
nodes_of lists (Node node) = node ∷ []

-- the nodes of pieces, joined
abbrev pub joined : List (List ℕ) → List Piece → List ℕ
joined lists pieces = each pieces (nodes_of lists)

-- a chain lies within its list
abbrev pub IsWithin : List (List ℕ) → Piece → Type 0
IsWithin lists (Chain v from to reversed) = (v < length lists) × (from ≤ to) × (to ≤ length (route lists v))
IsWithin lists (Node node) = Unit {0}

-- a piece lies within its list in one way at most
pub IsWithin-prop : (lists : List (List ℕ)) (piece : Piece) → IsProp (IsWithin lists piece)
IsWithin-prop lists (Chain v from to reversed) = Prim.hlevel props
IsWithin-prop lists (Node node) = Unit-prop

-- pieces are a splice of the list of v: its places below `front`, the middle ones, and its places from `behind` on.
-- Each middle one lies within its list, and there are at least two more pieces than in the middle
pub record IsSplice (lists : List (List ℕ)) (v : ℕ) (pieces : List Piece) (front behind : ℕ) (middle : List Piece) :
    Type 0 where
  pub order : front ≤ behind
  pub high : behind ≤ length (route lists v)
  pub within : All (IsWithin lists) middle
  pub few : length middle + 2 ≤ length pieces
  pub joins : joined lists pieces ≡ take front (route lists v) ++ (joined lists middle ++ drop behind (route lists v))

-- the pieces of a part are a splice of the list of its vehicle
abbrev pub IsSpliced : List (List ℕ) → ListAfter → Type 0
IsSpliced lists part = IsSplice lists part.vehicle part.pieces part.front part.behind (middle_of part.pieces)

-- lists, with those of the parts in the place of the old ones; each piece is one of old
abbrev pub with_parts : List (List ℕ) → List ListAfter → List (List ℕ) → List (List ℕ)
with_parts old [] lists = lists
with_parts old (part ∷ parts) lists = with_parts old parts (with_route lists part.vehicle (joined old part.pieces))

-- the lists after a change of these parts
abbrev pub changed : List (List ℕ) → List ListAfter → List (List ℕ)
changed lists parts = with_parts lists parts lists

-- the part that is read if a change has none of a number
abbrev pub no_part : ListAfter
no_part = record { vehicle = 0; pieces = []; front = 0; behind = 0 }

-- part k of a change
abbrev pub part_at : List ListAfter → ℕ → ListAfter
part_at parts k = slice_index_or parts k no_part
