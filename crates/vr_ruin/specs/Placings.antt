-- Insertions of an item into one list, as code compares them.
use Rattle.std.specs.Prelude.{◌≡◌, ℕ, suc, true, false, cond, List, [], ◌∷◌, map, fold, length, insert, ℤ, pos}
use Rattle.std.specs.Prelude.{Option, Some, None, IsTrue, ◌≤◌, ◌-ℤ◌, ◌<ℤ◌, int_le}
use Rattle.std.specs.List.{list_all}
use Rattle.vr_model.specs.tables.Numbers.{from_to, each}
use Rattle.vr_model.specs.tables.Tables.{is_visit}
use Rattle.vr_model.specs.routes.Routes.{route_cost, holds, is_distinct}
use Rattle.vr_model.specs.moves.Moves.{with_pair, gaps}
use Rattle.vr_model.specs.routes.Rules.{is_route_open}
use Rattle.vr_model.specs.first.Choosing.{better}
use Rattle.vr_model.specs.first.CheapestInsertion.{Insertion}
use Rattle.vr_model.specs.declared.records.Model.{Model}
use Rattle.vr_rules.specs.declared.items.Item.{Item}
use Rattle.vr_rules.specs.declared.items.Item.TheVariants.{Visit, PickupAndDelivery}
use Rattle.vr_rules.specs.Placing.{item_nodes}
use Rattle.vr_ruin.specs.declared.placing.Placing.{Placing}
use Rattle.vr_ruin.specs.declared.placing.Placing.TheVariants.{One, Two}
use Rattle.vr_ruin.specs.declared.placing.Offer.{Offer}

-- the item that is placed
abbrev pub item_in : Placing → Item
item_in (One node t) = Visit node
item_in (Two pickup delivery s t) = PickupAndDelivery pickup delivery

-- the places before which its nodes go
abbrev pub places_in : Placing → List ℕ
places_in (One node t) = t ∷ []
places_in (Two pickup delivery s t) = s ∷ t ∷ []

-- the list with the item placed
abbrev pub placed : List ℕ → Placing → List ℕ
placed list (One node t) = insert list t node
placed list (Two pickup delivery s t) = with_pair (record { pickup = pickup; delivery = delivery }) s t list

-- the places are places of the list or its end, the second not before the first
abbrev pub AreWithin : List ℕ → Placing → Type 0
AreWithin list (One node t) = t ≤ length list
AreWithin list (Two pickup delivery s t) = (s ≤ t) × (t ≤ length list)

-- the insertion that an offer is for
abbrev pub insertion_of : Offer → Insertion
insertion_of offer = record {
  item = item_nodes (item_in offer.placing);
  vehicle = offer.vehicle;
  places = places_in offer.placing;
}

-- what offers of one vehicle are compared by: the increase, then the places
abbrev pub key_of : Offer → List ℤ
key_of offer = offer.increase ∷ map pos (places_in offer.placing)

-- an item at places of the list of vehicle v, with what that adds to the arc costs
abbrev pub offer_for : Model → ℕ → List ℕ → Placing → Offer
offer_for model v list placing = record {
  placing = placing;
  vehicle = v;
  increase = route_cost model v (placed list placing) -ℤ route_cost model v list;
}

-- all places of an item in a list
abbrev pub placings_of : List ℕ → Item → List Placing
placings_of list (Visit node) = map (One node) (gaps list)
placings_of list (PickupAndDelivery pickup delivery) = each (gaps list) λ s. map (Two pickup delivery s)
    (from_to s (suc (length list)))

-- the better of the best so far and an offer, which counts only if the list stays open
abbrev pub weigh : Model → List ℕ → Option Offer → Offer → Option Offer
weigh model list best next = cond (is_route_open model next.vehicle (placed list next.placing))
    (better key_of best next) best

-- the best of some places
abbrev pub best_of : Model → ℕ → List ℕ → Option Offer → List Placing → Option Offer
best_of model v list best placings =
    fold (λ best placing. weigh model list best (offer_for model v list placing)) best placings

-- an offer, if it adds no more than a limit
abbrev pub no_more_than : Option ℤ → Option Offer → Option Offer
no_more_than None best = best
no_more_than (Some limit) None = None
no_more_than (Some limit) (Some best) = cond (int_le best.increase limit) (Some best) None

-- offers that add more than this need not be looked at: what the best one so far adds, or the limit
abbrev pub bound_for : Option Offer → Option ℤ → Option ℤ
bound_for None limit = limit
bound_for (Some best) limit = Some best.increase

-- more is added than a bound
abbrev pub IsAbove : Option ℤ → ℤ → Type 0
IsAbove None x = true ≡ false
IsAbove (Some bound) x = bound <ℤ x

-- a list of few distinct visits that an item may be put into: its nodes are distinct visits too, and not in the list
pub record MayHold (model : Model) (list : List ℕ) (item : Item) : Type 0 where
  pub few : length list ≤ 1000
  pub visits : IsTrue (list_all (is_visit model) list)
  pub distinct : IsTrue (is_distinct list)
  pub item_visits : IsTrue (list_all (is_visit model) (item_nodes item))
  pub item_distinct : IsTrue (is_distinct (item_nodes item))
  pub absent : (node : ℕ) → IsTrue (holds (item_nodes item) node) → holds list node ≡ false
