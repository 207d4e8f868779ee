-- The first solution by parallel cheapest insertion. Of the insertions that may be made, into any list, those of the
-- least class come first. Of these, the cheapest one is made.
use Rattle.std.specs.Prelude.{ℕ, zero, suc, List, [], ◌∷◌, map, length, filter, insert, slice_index, ℤ, pos, ◌-ℤ◌}
use Rattle.std.specs.Prelude.{Option, Some, None}
use Rattle.vr_model.specs.tables.Numbers.{from_to, each}
use Rattle.vr_model.specs.routes.Routes.{route, route_cost, vehicles}
use Rattle.vr_model.specs.moves.Moves.{with_route, with_pair, gaps}
use Rattle.vr_model.specs.routes.Rules.{is_open}
use Rattle.vr_model.specs.first.Choosing.{least_by}
use Rattle.vr_model.specs.first.Items.{items, first_node, class, unplaced, empty_lists}
use Rattle.vr_model.specs.declared.records.Model.{Model}

-- an insertion: an item, a vehicle, and the places before which the item's nodes go
pub record Insertion : Type 0 where
  pub item : List ℕ
  pub vehicle : ℕ
  pub places : List ℕ

-- a list after an insertion
abbrev pub inserted_in : List ℕ → List ℕ → List ℕ → List ℕ
inserted_in list (pickup ∷ delivery ∷ []) (s ∷ t ∷ []) =
    with_pair (record { pickup = pickup; delivery = delivery }) s t list
inserted_in list item places = insert list (slice_index places 0) (first_node item)

-- the lists after an insertion
abbrev pub inserted : List (List ℕ) → Insertion → List (List ℕ)
inserted lists insertion =
    with_route lists insertion.vehicle (inserted_in (route lists insertion.vehicle) insertion.item insertion.places)

-- the places of an item in a list
abbrev pub places_for : List ℕ → List ℕ → List (List ℕ)
places_for (pickup ∷ delivery ∷ []) list = each (gaps list) λ s. map (λ t. s ∷ t ∷ []) (from_to s (suc (length list)))
places_for item list = map (λ t. t ∷ []) (gaps list)

-- the insertions of an unplaced item into some list
abbrev pub insertions : Model → List (List ℕ) → List Insertion
insertions model lists = each (unplaced model lists) λ item. each (vehicles lists) λ v.
    map (λ places. record { item = item; vehicle = v; places = places }) (places_for item (route lists v))

-- the arc costs of its vehicle after an insertion less those before
abbrev pub increase : Model → List (List ℕ) → Insertion → ℤ
increase model lists insertion = let v = insertion.vehicle in
    route_cost model v (route (inserted lists insertion) v) -ℤ route_cost model v (route lists v)

-- insertions are taken by class, then by increase, then by the item's first node, the vehicle and the places
abbrev pub insertion_key : Model → List (List ℕ) → Insertion → List ℤ
insertion_key model lists insertion =
    pos (class model insertion.item) ∷ increase model lists insertion ∷ pos (first_node insertion.item)
    ∷ pos insertion.vehicle ∷ map pos insertion.places

-- the insertion to make, if any may be made
abbrev pub next_inserted : Model → List (List ℕ) → Option Insertion
next_inserted model lists =
    let open_ones = filter (λ insertion. is_open model (inserted lists insertion)) (insertions model lists) in
    least_by (insertion_key model lists) open_ones

-- items are inserted as long as one may be, up to a given number
abbrev pub rebuilt : Model → ℕ → List (List ℕ) → List (List ℕ)
rebuilt model zero lists = lists
rebuilt model (suc more) lists =
    elim (next_inserted model lists) [ None ↦ lists | Some insertion ↦ rebuilt model more (inserted lists insertion) ]

-- Items are inserted into empty lists. No more can be inserted than there are.
abbrev pub parallel_cheapest_insertion : Model → List (List ℕ)
parallel_cheapest_insertion model = rebuilt model (length (items model)) (empty_lists model)
