-- Which vehicles the visits of a list allow.
use Rattle.std.specs.Prelude.{ℕ, Bool, List}
use Rattle.std.specs.List.{list_all}
use Rattle.vr_model.specs.routes.Rules.{allows_vehicle}
use Rattle.vr_model.specs.declared.records.Model.{Model}
use Rattle.vr_routes.specs.Pieces.{nodes_of}
use Rattle.vr_routes.specs.declared.pieces.Piece.{Piece}

-- each visit of a list allows vehicle v
abbrev pub is_allowed_list : Model → ℕ → List ℕ → Bool
is_allowed_list model v list = list_all (allows_vehicle model v) list

-- each node of some pieces allows vehicle v
abbrev pub are_allowed_pieces : Model → List (List ℕ) → ℕ → List Piece → Bool
are_allowed_pieces model lists v pieces = list_all (λ piece. is_allowed_list model v (nodes_of lists piece)) pieces
