-- The visits that a move changes.
use Rattle.std.specs.Prelude.{ℕ, Bool, true, false, cond, not, ◌==◌, List, [], ◌∷◌, filter, Option, Some, None}
use Rattle.std.specs.List.{list_any}
use Rattle.vr_model.specs.tables.Tables.{vehicle_at, visits}
use Rattle.vr_model.specs.routes.Routes.{route, vehicles}
use Rattle.vr_model.specs.declared.records.Model.{Model}

-- the node just before a visit in a list that begins after a node; none if the visit is not in it
abbrev pub node_just_before : ℕ → List ℕ → ℕ → Option ℕ
node_just_before origin [] visit = None
node_just_before origin (next ∷ rest) visit = cond (next == visit) (Some origin) (node_just_before next rest visit)

-- both are the same node, or there is neither
abbrev pub is_same_node : Option ℕ → Option ℕ → Bool
is_same_node None None = true
is_same_node None (Some y) = false
is_same_node (Some x) None = false
is_same_node (Some x) (Some y) = x == y

-- a visit is changed in a list if the node just before it is another in the new list than in the old one. So is a visit
-- that is in one of the two lists alone. From 3 7 4 to 3 4 7 the visits 4 and 7 are changed, and 3 is not.
abbrev pub is_changed_in : ℕ → List ℕ → List ℕ → ℕ → Bool
is_changed_in start old new visit = not (is_same_node (node_just_before start old visit)
    (node_just_before start new visit))

-- a visit is changed from lists to others if its vehicle or the node just before it is another. It is, if that holds in
-- the list of some vehicle. An inactive visit has neither.
abbrev pub is_changed : Model → List (List ℕ) → List (List ℕ) → ℕ → Bool
is_changed model old new visit =
    list_any (λ v. is_changed_in (vehicle_at model v).start (route old v) (route new v) visit) (vehicles old)

-- the visits that are changed from lists to others, ascending
abbrev pub changed_visits : Model → List (List ℕ) → List (List ℕ) → List ℕ
changed_visits model old new = filter (is_changed model old new) (visits model)
