-- Joining routes ends by itself, as a statement.
use Rattle.std.specs.Prelude.{◌≡◌, ℕ, List, false, length, Some}
use Rattle.vr_model.specs.first.Choosing.{least_by}
use Rattle.vr_model.specs.first.SavingsJoins.{Join, is_wanted, join_key, joins, merged}
use Rattle.vr_model.specs.declared.records.Model.{Model}

-- no join of these routes is wanted any more: there is none, or the best one is not wanted
abbrev pub IsMerged : Model → List (List ℕ) → Type 0
IsMerged model routes =
    (join : Join) → least_by (join_key model) (joins model routes) ≡ Some join → is_wanted model routes join ≡ false

-- after at most as many joins as there are routes, no join is wanted any more, whatever routes it begins with
abbrev pub MergingEnds : Type 0
MergingEnds = (model : Model) (routes : List (List ℕ)) → IsMerged model (merged model (length routes) routes)
