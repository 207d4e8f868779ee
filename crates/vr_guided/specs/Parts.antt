-- The list of a vehicle, before a change and after it.
use Rattle.std.specs.Prelude.{ℕ, ◌<◌, ◌≤◌, List, length, All, ℤ, ◌-ℤ◌}
use Rattle.vr_model.specs.routes.Routes.{route}
use Rattle.vr_model.specs.search.GuidedSearches.{Penalties}
use Rattle.vr_model.specs.declared.records.Model.{Model}
use Rattle.vr_routes.specs.declared.pieces.Piece.{Piece}
use Rattle.vr_routes.specs.Pieces.{IsWithin, ListAfter, joined}
use Rattle.vr_guided.specs.Walks.{route_weight}

-- a vehicle of a model, whose list and whose pieces are nodes of it, 1000 of each at most
pub record IsPart (model : Model) (lists : List (List ℕ)) (v : ℕ) (pieces : List Piece) : Type 0 where
  pub vehicle : v < length lists
  pub of_model : v < length model.vehicles
  pub old_nodes : All (λ node. node < model.nodes) (route lists v)
  pub old_short : length (route lists v) ≤ 1000
  pub nodes : All (λ node. node < model.nodes) (joined lists pieces)
  pub short : length (joined lists pieces) ≤ 1000

-- what a part of a change makes of the penalised arc costs
abbrev pub weight_change : Model → Penalties → List (List ℕ) → ListAfter → ℤ
weight_change model p lists part = route_weight model p part.vehicle (joined lists part.pieces)
    -ℤ route_weight model p part.vehicle (route lists part.vehicle)

-- pieces lie within their lists, and are joined to nodes below a number
pub record AreBelow (n : ℕ) (lists : List (List ℕ)) (pieces : List Piece) : Type 0 where
  pub within : All (IsWithin lists) pieces
  pub nodes : All (λ node. node < n) (joined lists pieces)
