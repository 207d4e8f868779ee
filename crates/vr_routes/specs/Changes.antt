-- What a part of a change is.
use Rattle.std.specs.Prelude.{◌≡◌, ◌≢◌, ◌<◌, ℕ, true, false, IsTrue, List, ◌∷◌, length, All}
use Rattle.std.specs.List.{AllPairs}
use Rattle.vr_model.specs.moves.Moves.{apply}
use Rattle.vr_model.specs.routes.Routes.{route, are_lists}
use Rattle.vr_model.specs.declared.records.Model.{Model}
use Rattle.vr_model.specs.declared.neighbours.Move.{Move}
use Rattle.vr_model.specs.tables.Tables.{visits}
use Rattle.vr_model.specs.moves.MoveTests.{is_move}
use Rattle.vr_model.specs.tables.WellFormed.{IsWellFormed}
use Rattle.vr_routes.specs.Seats.{Seated, IsOnce, HaveNodes}
use Rattle.vr_routes.specs.Tours.{Tours}
use Rattle.vr_routes.specs.Pieces.{ListAfter, joined, changed, IsWithin, IsSpliced}
use Rattle.vr_routes.specs.declared.pieces.Piece.{Piece}
use Rattle.vr_routes.specs.declared.pieces.Piece.TheVariants.{Chain}

-- the routes after a change
abbrev pub after : Tours → List ListAfter → Tours
after tours parts = record { visits = tours.visits; lists = changed tours.lists parts }

-- no change of any routes is ready
abbrev pub NothingReady : (Tours → List ListAfter → Type 0) → Type 0
NothingReady ready = (tours : Tours) (parts : List ListAfter) → ready tours parts → ⊥

-- the part begins with the places of the list of v below `front`, and the pieces after them are joined to the nodes
pub record IsPartBegun (lists : List (List ℕ)) (part : ListAfter) (v front : ℕ) (nodes : List ℕ) : Type 0 where
  pub vehicle_is : part.vehicle ≡ v
  pub front_is : part.front ≡ front
  pub middle : List Piece
  pub pieces_are : part.pieces ≡ Chain v 0 front false ∷ middle
  pub nodes_are : joined lists middle ≡ nodes
  pub each_within : All (IsWithin lists) middle

-- the pieces of the part, each within its list, are joined to the list of v, and are a splice of the one before
pub record IsAfter (lists : List (List ℕ)) (part : ListAfter) (v : ℕ) (list : List ℕ) : Type 0 where
  pub vehicle_is : part.vehicle ≡ v
  pub list_is : joined lists part.pieces ≡ list
  pub each_within : All (IsWithin lists) part.pieces
  pub spliced : IsSpliced lists part

-- the parts are of different vehicles of the lists, their pieces lie within the lists, and each is a splice
pub record AreParts (lists : List (List ℕ)) (parts : List ListAfter) : Type 0 where
  pub each_vehicle : All (λ part. part.vehicle < length lists) parts
  pub each_within : All (λ part. All (IsWithin lists) part.pieces) parts
  pub each_spliced : All (IsSpliced lists) parts
  pub apart : AllPairs (λ p q. p.vehicle ≢ q.vehicle) parts

-- a part gives its vehicle another list than it has
abbrev pub IsOther : List (List ℕ) → ListAfter → Type 0
IsOther lists part = joined lists part.pieces ≢ route lists part.vehicle

-- lists may be changed so: after it no node comes twice, and each one is among those that may be in lists
pub record MayChange (seated : Seated) (parts : List ListAfter) : Type 0 where
  pub parts_are : AreParts seated.lists parts
  pub once : IsOnce (changed seated.lists parts)
  pub have : HaveNodes seated.nodes (changed seated.lists parts)

-- a change of lists is the one that a move makes. If they are lists of the model, each part gives its vehicle another
-- list
pub record IsChange (model : Model) (lists : List (List ℕ)) (mv : Move) (parts : List ListAfter) : Type 0 where
  pub parts_are : AreParts lists parts
  pub lists_are : changed lists parts ≡ apply model lists mv
  pub each_changes : IsTrue (are_lists model lists) → All (IsOther lists) parts

-- a change was made on routes: some move of their lists makes it
pub record IsMadeOn (tours : Tours) (parts : List ListAfter) : Type 0 where
  pub model : Model
  pub mv : Move
  pub well_formed : IsWellFormed model
  pub visits_are : visits model ≡ tours.visits
  pub is_one : is_move model tours.lists mv ≡ true
  pub makes : IsChange model tours.lists mv parts
