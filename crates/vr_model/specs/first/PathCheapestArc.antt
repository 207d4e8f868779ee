-- The first solution by the cheapest arc: vehicle after vehicle, items are appended to the end of its list.
use Rattle.std.specs.Prelude.{ℕ, zero, suc, cond, List, [], ◌∷◌, ◌++◌, length, filter, ℤ, pos, Option, Some, None, fold}
use Rattle.vr_model.specs.tables.Numbers.{below}
use Rattle.vr_model.specs.tables.Tables.{vehicle_at, arc_cost}
use Rattle.vr_model.specs.routes.Routes.{route, is_empty}
use Rattle.vr_model.specs.moves.Moves.{with_route}
use Rattle.vr_model.specs.routes.Rules.{is_open}
use Rattle.vr_model.specs.first.Choosing.{least_by}
use Rattle.vr_model.specs.first.Items.{items, first_node, last_node, class, unplaced, empty_lists}
use Rattle.vr_model.specs.declared.records.Model.{Model}

-- the lists with an item at the end of the list of vehicle v
abbrev pub appended : List (List ℕ) → ℕ → List ℕ → List (List ℕ)
appended lists v item = with_route lists v (route lists v ++ item)

-- the last node of the list of vehicle v, or its start if the list is empty
abbrev pub tail_node : Model → List (List ℕ) → ℕ → ℕ
tail_node model lists v = cond (is_empty (route lists v)) (vehicle_at model v).start (last_node (route lists v))

-- items are taken by class, then by the cost of the arc to their first node, then by number
abbrev pub append_key : Model → List (List ℕ) → ℕ → List ℕ → List ℤ
append_key model lists v item =
    pos (class model item) ∷ arc_cost model v (tail_node model lists v) (first_node item) ∷ pos (first_node item) ∷ []

-- the unplaced item to append to the list of vehicle v, if any may be appended
abbrev pub next_appended : Model → List (List ℕ) → ℕ → Option (List ℕ)
next_appended model lists v =
    least_by (append_key model lists v) (filter (λ item. is_open model (appended lists v item)) (unplaced model lists))

-- items are appended to the list of vehicle v as long as one may be, up to a given number
abbrev pub filled : Model → ℕ → ℕ → List (List ℕ) → List (List ℕ)
filled model v zero lists = lists
filled model v (suc more) lists =
    elim (next_appended model lists v) [ None ↦ lists | Some item ↦ filled model v more (appended lists v item) ]

-- The lists of each vehicle in turn are filled. No more items can be appended than there are.
abbrev pub path_cheapest_arc : Model → List (List ℕ)
path_cheapest_arc model =
    fold (λ lists v. filled model v (length (items model)) lists) (empty_lists model) (below (length model.vehicles))
