-- The list of a vehicle that pieces are joined to.
use Rattle.std.specs.Prelude.{◌<◌, ◌≤◌, ℕ, All, List, length}
use Rattle.vr_model.specs.routes.Routes.{route}
use Rattle.vr_model.specs.schedules.Lines.{line}
use Rattle.vr_model.specs.schedules.Schedules.{IsFeasible}
use Rattle.vr_model.specs.declared.records.Model.{Model}
use Rattle.vr_reach.specs.Lists.{IsUsed}
use Rattle.vr_routes.specs.Pieces.{joined, IsSplice, IsWithin}
use Rattle.vr_routes.specs.declared.pieces.Piece.{Piece}
use Rattle.vr_routes.specs.declared.pieces.Splice.{Splice}

-- these pieces, each within its list, are joined to a list of distinct visits, not the empty one. They are a splice of
-- the list that vehicle v has here.
pub record AreJoined (model : Model) (v : ℕ) (lists : List (List ℕ)) (pieces : List Piece) (splice : Splice) : Type 0
  where
    pub known : v < length lists
    pub short : length (route lists v) ≤ 1000
    pub within : All (IsWithin lists) pieces
    pub spliced : IsSplice lists v pieces splice.front splice.behind splice.middle.now
    pub used : IsUsed model (joined lists pieces)
    pub few : length (joined lists pieces) ≤ 1000

-- the same of the vehicle of the splice, one of the model. Its line with that list is feasible in dimension d.
pub record AreJoinedFeasibly (model : Model) (d : ℕ) (lists : List (List ℕ)) (pieces : List Piece) (splice : Splice)
    : Type 0 where
  pub vehicle : splice.vehicle < length model.vehicles
  pub are : AreJoined model splice.vehicle lists pieces splice
  pub feasible : IsFeasible (line model d splice.vehicle (joined lists pieces))
