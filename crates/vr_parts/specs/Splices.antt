-- Lists after a change, as splices of the lists before it.
use Rattle.std.specs.Prelude.{ℕ, ◌<◌, ◌≤◌, List, ◌++◌, length, take, drop, All}
use Rattle.vr_model.specs.routes.Routes.{route}
use Rattle.vr_routes.specs.declared.pieces.Piece.{Piece}
use Rattle.vr_routes.specs.Pieces.{joined, IsWithin}

-- the list of v with the nodes of pieces between its places below `front` and those from `behind` on
abbrev pub spliced : List (List ℕ) → ℕ → ℕ → ℕ → List Piece → List ℕ
spliced lists v front behind middle = take front (route lists v) ++ (joined lists middle ++ drop behind (route lists v))

-- the list of v may be spliced so: its ends are in order, and the few pieces between them lie within the lists
pub record MayBeSpliced (lists : List (List ℕ)) (v front behind : ℕ) (middle : List Piece) : Type 0 where
  pub vehicle : v < length lists
  pub order : front ≤ behind
  pub high : behind ≤ length (route lists v)
  pub within : All (IsWithin lists) middle
  pub few : length middle ≤ 6
