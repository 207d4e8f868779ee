-- What moves add to arc costs.
use Rattle.std.specs.Prelude.{ℕ, ◌<◌, List, ℤ, ◌-ℤ◌, drop, take, ◌++◌}
use Rattle.vr_model.specs.moves.Moves.{apply}
use Rattle.vr_model.specs.routes.Costs.{arcs_part}
use Rattle.vr_model.specs.routes.Routes.{route, route_cost}
use Rattle.vr_model.specs.declared.records.Model.{Model}
use Rattle.vr_model.specs.declared.neighbours.Move.{Move}
use Rattle.vr_routes.specs.Pieces.{IsWithin}
use Rattle.vr_routes.specs.declared.pieces.Piece.{Piece}
use Rattle.vr_routes.specs.declared.pieces.Piece.TheVariants.{Chain, Node}

-- how much more a list costs vehicle v than the one that it has
abbrev pub costs_more : Model → List (List ℕ) → ℕ → List ℕ → ℤ
costs_more model lists v list = route_cost model v list -ℤ route_cost model v (route lists v)

-- a list with other nodes between its first f and those from place b on
abbrev pub with_between : List ℕ → ℕ → ℕ → List ℕ → List ℕ
with_between list f b nodes = take f list ++ (nodes ++ drop b list)

-- what the arc costs come to after a move, less what they come to before it
abbrev pub arcs_added : Model → List (List ℕ) → Move → ℤ
arcs_added model lists mv = arcs_part model (apply model lists mv) -ℤ arcs_part model lists

-- a piece lies within its list, or is a node of the model
abbrev pub IsKnownPiece : Model → List (List ℕ) → Piece → Type 0
IsKnownPiece model lists (Chain v from to reversed) = IsWithin lists (Chain v from to reversed)
IsKnownPiece model lists (Node node) = node < model.nodes
