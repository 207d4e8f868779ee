-- Filling a list ends by itself, as a statement.
use Rattle.std.specs.Prelude.{◌≡◌, ◌<◌, ℕ, List, length, None}
use Rattle.vr_model.specs.first.Items.{items}
use Rattle.vr_model.specs.first.PathCheapestArc.{filled, next_appended}
use Rattle.vr_model.specs.declared.records.Model.{Model}

-- after at most as many items were appended to the list of a vehicle as there are items, none may be appended any more
abbrev pub FillingEnds : Type 0
FillingEnds =
    (model : Model) (v : ℕ) (lists : List (List ℕ)) → v < length lists
    → next_appended model (filled model v (length (items model)) lists) v ≡ None
