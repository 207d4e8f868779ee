-- Insertion ends by itself, as a statement.
use Rattle.std.specs.Prelude.{◌≡◌, ℕ, List, length, None}
use Rattle.vr_model.specs.first.CheapestInsertion.{next_inserted, rebuilt}
use Rattle.vr_model.specs.first.Items.{items}
use Rattle.vr_model.specs.declared.records.Model.{Model}

-- after at most as many insertions as there are items, none may be made any more, whatever lists it begins with
abbrev pub InsertionEnds : Type 0
InsertionEnds =
    (model : Model) (lists : List (List ℕ)) → next_inserted model (rebuilt model (length (items model)) lists) ≡ None
