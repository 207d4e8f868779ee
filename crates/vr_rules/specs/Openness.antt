-- Openness is local, as a statement.
use Rattle.std.specs.Prelude.{◌≡◌, ℕ, ◌<◌, ◌&&◌, ◌||◌, IsTrue, List, length}
use Rattle.vr_model.specs.routes.Routes.{route, holds}
use Rattle.vr_model.specs.routes.Rules.{is_open, is_route_open}
use Rattle.vr_model.specs.moves.Moves.{with_route}
use Rattle.vr_model.specs.declared.records.Model.{Model}
use Rattle.vr_rules.specs.Placing.{fits_beside}

-- let lists be open, and vehicle v get another list, with these nodes beside those that it had. Then they are open
-- exactly if vehicle v may drive it and no group gets more active nodes than it may have
abbrev pub OpennessIsLocal : Type 0
OpennessIsLocal = (model : Model) (lists : List (List ℕ)) (v : ℕ) (list nodes : List ℕ)
    → IsTrue (is_open model lists) → v < length lists
    → ((node : ℕ) → holds list node ≡ (holds nodes node || holds (route lists v) node))
    → is_open model (with_route lists v list) ≡ (is_route_open model v list && fits_beside model lists nodes)
