-- Arc costs of a route, one stop further.
use Rattle.std.proofs.Common.{◌≡◌, ◌<◌, ◌≤◌, ◌+◌, ◌++◌, ℕ, List, [], ◌∷◌, false, refl, ap, length, get_or, drop}
use Rattle.std.specs.Prelude.{ℤ, pos, ◌+ℤ◌, ◌==◌}
use Rattle.std.proofs.lemmas.List.{drop_more, drop_all}
use Rattle.vr_model.specs.declared.records.Model.{Model}
use Rattle.vr_model.specs.tables.Numbers.{total_by}
use Rattle.vr_model.specs.tables.Tables.{arc_cost, vehicle_at}
use Rattle.vr_model.specs.routes.Routes.{arcs_from, cost_of_arc, route_cost}

-- the costs of the arcs of vehicle v from a node through others in turn
abbrev pub path_cost : Model → ℕ → ℕ → List ℕ → ℤ
path_cost model v at nodes = total_by (cost_of_arc model) (arcs_from v at nodes)

-- the arc to the next node, and those from there on
pub path_cost-drop : (model : Model) (v at last : ℕ) (list : List ℕ) (i : ℕ) → i < length list
    → path_cost model v at (drop i list ++ last ∷ [])
    ≡ arc_cost model v at (get_or list i 0) +ℤ path_cost model v (get_or list i 0) (drop (i + 1) list ++ last ∷ [])
path_cost-drop model v at last list i low = ap (λ nodes. path_cost model v at (nodes ++ last ∷ [])) (drop_more list i 0 low)

-- after the last of the list
pub path_cost-end : (model : Model) (v at last : ℕ) (list : List ℕ) (i : ℕ) → length list ≤ i
    → path_cost model v at (drop i list ++ last ∷ []) ≡ arc_cost model v at last +ℤ pos 0
path_cost-end model v at last list i high = ap (λ nodes. path_cost model v at (nodes ++ last ∷ [])) (drop_all i list high)

-- a route with visits goes from the start through them to the end
pub route_cost-used : (model : Model) (v : ℕ) (list : List ℕ) → (length list == 0) ≡ false
    → route_cost model v list ≡ path_cost model v (vehicle_at model v).start (list ++ (vehicle_at model v).end ∷ [])
route_cost-used model v [] h = absurd (cc)
route_cost-used model v (x ∷ xs) h = refl
