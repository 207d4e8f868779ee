-- Recreate: items are put back one by one at the cheapest place, now and then with the second best vehicle.
use Rattle.std.specs.Prelude.{ℕ, ◌-◌, ◌/◌, min, Bool, true, false, cond, not, ◌||◌, ◌==◌, List, [], ◌∷◌, ◌++◌}
use Rattle.std.specs.Prelude.{map, length, filter, find, fold, slice_get, option_to_list, unwrap_or, Option, Some, None}
use Rattle.std.specs.Prelude.{ℤ, pos, ◌-ℤ◌, int_lt}
use Rattle.rand_pcg.specs.Lcg.{Lcg}
use Rattle.vr_model.specs.tables.Numbers.{each, total_by}
use Rattle.vr_model.specs.routes.Routes.{route, holds, is_empty, vehicles, used_vehicles}
use Rattle.vr_model.specs.routes.Rules.{is_route_open}
use Rattle.vr_model.specs.routes.Costs.{cost, penalty_part}
use Rattle.vr_model.specs.first.Choosing.{least_by}
use Rattle.vr_model.specs.first.Items.{class}
use Rattle.vr_model.specs.first.CheapestInsertion.{Insertion, inserted, inserted_in, places_for, increase}
use Rattle.vr_model.specs.declared.records.Model.{Model}
use Rattle.vr_model.specs.declared.records.Group.{Group}
use Rattle.vr_rules.specs.Placing.{fits_beside}
use Rattle.vr_strings.specs.Sorting.{sorted_by}
use Rattle.vr_strings.specs.Zeros.{zeros}

-- ---- the offer of a vehicle

-- the insertions of an item into the list of vehicle v
abbrev pub insertions_into : List (List ℕ) → List ℕ → ℕ → List Insertion
insertions_into lists item v = map (λ places. record { item = item; vehicle = v; places = places })
    (places_for item (route lists v))

-- the list of its vehicle is open after an insertion
abbrev pub keeps_open : Model → List (List ℕ) → Insertion → Bool
keeps_open model lists insertion = is_route_open model insertion.vehicle
    (inserted_in (route lists insertion.vehicle) insertion.item insertion.places)

-- insertions into one list are taken by the increase of arc costs, then by the places
abbrev pub offer_key : Model → List (List ℕ) → Insertion → List ℤ
offer_key model lists insertion = increase model lists insertion ∷ map pos insertion.places

-- the offer of vehicle v for an item: the least insertion into its list after which the list is open
abbrev pub offer : Model → List (List ℕ) → List ℕ → ℕ → Option Insertion
offer model lists item v = least_by (offer_key model lists)
    (filter (keeps_open model lists) (insertions_into lists item v))

-- the cost of lists without penalties
abbrev pub paid_cost : Model → List (List ℕ) → ℤ
paid_cost model lists = cost model lists -ℤ penalty_part model lists

-- the price of an insertion: how much more the lists cost after it, in all parts but the penalties
abbrev pub price_of : Model → List (List ℕ) → Insertion → ℤ
price_of model lists insertion = paid_cost model (inserted lists insertion) -ℤ paid_cost model lists

-- ---- the offers of all vehicles that are asked

-- the offers of some vehicles
abbrev pub offers_of : Model → List (List ℕ) → List ℕ → List ℕ → List Insertion
offers_of model lists item asked = each asked λ v. option_to_list (offer model lists item v)

-- the vehicles with an empty list, ascending
abbrev pub empty_vehicles : List (List ℕ) → List ℕ
empty_vehicles lists = filter (λ v. is_empty (route lists v)) (vehicles lists)

-- the offers for an item, of the used vehicles. The empty ones are asked too if the step is wide or no used one has an
-- offer
abbrev pub offers : Model → Bool → List (List ℕ) → List ℕ → List Insertion
offers model wide lists item = let from_used = offers_of model lists item (used_vehicles lists) in
    cond (wide || is_empty from_used) (from_used ++ offers_of model lists item (empty_vehicles lists)) from_used

-- offers are taken by price, then by vehicle
abbrev pub rank_key : Model → List (List ℕ) → Insertion → List ℤ
rank_key model lists insertion = price_of model lists insertion ∷ pos insertion.vehicle ∷ []

-- the offer at place r of their order, the last one if there are fewer
abbrev pub offer_at : Model → Bool → List (List ℕ) → List ℕ → ℕ → Option Insertion
offer_at model wide lists item r =
    let in_order = sorted_by (rank_key model lists) (offers model wide lists item) in
    slice_get in_order (min r (length in_order - 1))

-- ---- an item in its turn

-- the penalty of the group of a node, 0 if there is none
abbrev pub penalty_of_group : Option Group → ℤ
penalty_of_group None = pos 0
penalty_of_group (Some group) = unwrap_or group.penalty (pos 0)

abbrev pub penalty_at : Model → ℕ → ℤ
penalty_at model node = penalty_of_group (find (λ group. holds group.nodes node) model.groups)

-- an insertion pays if its item is not of class 2, or if its price is below the penalties of the nodes of its item
abbrev pub is_paid : Model → List (List ℕ) → Insertion → Bool
is_paid model lists insertion = not (class model insertion.item == 2)
    || int_lt (price_of model lists insertion) (total_by (penalty_at model) insertion.item)

-- the lists after an offer: it is taken if there is one and it pays, else the item stays out
abbrev pub with_offer : Model → List (List ℕ) → Option Insertion → List (List ℕ)
with_offer model lists None = lists
with_offer model lists (Some insertion) = cond (is_paid model lists insertion) (inserted lists insertion) lists

-- an item in its turn. If a group would get too many nodes from it, it stays out and takes no word. Else its word says
-- which offer is taken: nearly always the first, 1 time in 128 a later one
abbrev pub put_back : Model → Bool → List (List ℕ) × Lcg → List ℕ → List (List ℕ) × Lcg
put_back model wide at item = elim (fits_beside model at.0 item) [
  | true ↦ let word = zeros at.1 in (with_offer model at.0 (offer_at model wide at.0 item (word.0 / 7)), word.1)
  | false ↦ at
]

-- the lists after all items had their turns
unfoldable pub recreated : Model → Bool → List (List ℕ) → List (List ℕ) → Lcg → List (List ℕ) × Lcg
recreated model wide items lists words = fold (put_back model wide) (lists, words) items
