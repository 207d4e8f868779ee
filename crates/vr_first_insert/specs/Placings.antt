-- Insertions as code compares them.
use Rattle.std.specs.Prelude.{◌≡◌, ℕ, suc, ◌<◌, ◌≤◌, Bool, true, false, cond, List, [], ◌∷◌, map, fold, length}
use Rattle.std.specs.Prelude.{◌+◌, ◌^◌, insert, slice_index_or, ℤ, pos, neg_ℤ, ◌+ℤ◌, ◌≤ℤ◌, int_le, nat_lt, nat_le}
use Rattle.std.specs.Prelude.{◌&&◌, ◌||◌, IsTrue, Option, Some, None}
use Rattle.std.specs.List.{list_all}
use Rattle.vr_model.specs.tables.Numbers.{from_to, each, below}
use Rattle.vr_model.specs.tables.Tables.{is_visit}
use Rattle.vr_model.specs.routes.Routes.{route, holds, is_active, is_distinct}
use Rattle.vr_model.specs.moves.Moves.{with_pair, gaps}
use Rattle.vr_model.specs.routes.Rules.{is_open, is_route_open}
use Rattle.vr_model.specs.first.Choosing.{better}
use Rattle.vr_model.specs.first.Items.{first_node}
use Rattle.vr_model.specs.first.CheapestInsertion.{Insertion, inserted}
use Rattle.vr_model.specs.declared.records.Model.{Model}
use Rattle.vr_rules.specs.declared.items.Item.{Item}
use Rattle.vr_rules.specs.declared.items.Item.TheVariants.{Visit, PickupAndDelivery}
use Rattle.vr_rules.specs.declared.items.Candidate.{Candidate}
use Rattle.vr_rules.specs.Placing.{item_nodes, has_room, is_marked, IsItem}
use Rattle.vr_reach.specs.Lists.{IsTour}
use Rattle.vr_first_insert.specs.declared.choice.Placing.{Placing}
use Rattle.vr_first_insert.specs.declared.choice.Placing.TheVariants.{One, Two}
use Rattle.vr_first_insert.specs.declared.choice.InsertionChoice.{InsertionChoice}
use Rattle.vr_first_insert.specs.Increases.{visit_increase, pair_increase, IsIncrease}

-- the item that is placed
abbrev pub item_in : Placing → Item
item_in (One node t) = Visit node
item_in (Two pickup delivery s t) = PickupAndDelivery pickup delivery

-- the places before which its nodes go
abbrev pub places_in : Placing → List ℕ
places_in (One node t) = t ∷ []
places_in (Two pickup delivery s t) = s ∷ t ∷ []

-- the list with the item placed
abbrev pub placed : List ℕ → Placing → List ℕ
placed list (One node t) = insert list t node
placed list (Two pickup delivery s t) = with_pair (record { pickup = pickup; delivery = delivery }) s t list

-- the places are places of the list or its end, the second not before the first
abbrev pub AreWithin : List ℕ → Placing → Type 0
AreWithin list (One node t) = t ≤ length list
AreWithin list (Two pickup delivery s t) = (s ≤ t) × (t ≤ length list)

-- the insertion that a choice means
abbrev pub insertion_of : InsertionChoice → Insertion
insertion_of choice = record {
  item = item_nodes (item_in choice.placing);
  vehicle = choice.vehicle;
  places = places_in choice.placing;
}

-- what choices of one class and increase are compared by: the number of the item, the vehicle, the places
abbrev pub tail_key : InsertionChoice → List ℤ
tail_key choice = pos (first_node (item_nodes (item_in choice.placing))) ∷ pos choice.vehicle ∷
    map pos (places_in choice.placing)

-- what a choice is compared by: the class, the increase, the number of the item, the vehicle, the places
abbrev pub key_of : InsertionChoice → List ℤ
key_of choice = pos choice.class ∷ choice.increase ∷ tail_key choice

-- a visit before place t of the list of vehicle v
abbrev pub visit_choice : Model → ℕ → List ℕ → ℕ → ℕ → ℕ → InsertionChoice
visit_choice model v list class node t = record {
  placing = One node t;
  class = class;
  vehicle = v;
  increase = visit_increase model v list node t;
}

-- a pair before places s and t
abbrev pub pair_choice : Model → ℕ → List ℕ → ℕ → ℕ → ℕ → ℕ → ℕ → InsertionChoice
pair_choice model v list class pickup delivery s t = record {
  placing = Two pickup delivery s t;
  class = class;
  vehicle = v;
  increase = pair_increase model v list pickup delivery s t;
}

-- the choices of an item of a class in the list of vehicle v
abbrev pub choices_in : Model → ℕ → List ℕ → ℕ → Item → List InsertionChoice
choices_in model v list class (Visit node) = map (visit_choice model v list class node) (gaps list)
choices_in model v list class (PickupAndDelivery pickup delivery) = each (gaps list) λ s. map
    (pair_choice model v list class pickup delivery s) (from_to s (suc (length list)))

-- the better of the best so far and a choice in a list, which counts only if the list stays open
abbrev pub weigh : Model → List ℕ → Option InsertionChoice → InsertionChoice → Option InsertionChoice
weigh model list best next = cond (is_route_open model next.vehicle (placed list next.placing))
    (better key_of best next) best

-- the best beside the choices of an item in the list of vehicle v
abbrev pub best_in : Model → ℕ → List ℕ → Candidate → Option InsertionChoice → Option InsertionChoice
best_in model v list candidate best = fold (weigh model list) best
    (choices_in model v list candidate.class candidate.item)

-- the same in the lists of the first vehicles
abbrev pub best_in_lists : Model → List (List ℕ) → Candidate → ℕ → Option InsertionChoice → Option InsertionChoice
best_in_lists model lists candidate count best = fold (λ best v. best_in model v (route lists v) candidate best) best
    (below count)

-- an item counts if its first node is not marked and the groups have room for it
abbrev pub may_be_placed : Model → List Bool → Candidate → Bool
may_be_placed model marks candidate = cond (is_marked marks (first_node (item_nodes candidate.item))) false
    (list_all (has_room marks candidate.item) model.groups)

-- the best beside all choices of a candidate, if it counts
abbrev pub best_beside : Model → List (List ℕ) → List Bool → Candidate → Option InsertionChoice → Option InsertionChoice
best_beside model lists marks candidate best = cond (may_be_placed model marks candidate)
    (best_in_lists model lists candidate (length lists) best) best

-- a list of distinct visits that an item may be put into. The nodes of the item are distinct visits too, and none is in
-- the list.
pub record MayHold (model : Model) (list : List ℕ) (item : Item) : Type 0 where
  pub visits : IsTrue (list_all (is_visit model) list)
  pub distinct : IsTrue (is_distinct list)
  pub nodes : IsTour model (item_nodes item)
  pub absent : (node : ℕ) → holds (item_nodes item) node ≡ true → holds list node ≡ false

-- an insertion that may be made: its item is in no list, its places are there, and the lists stay open
pub record MayBeInserted (model : Model) (lists : List (List ℕ)) (choice : InsertionChoice) : Type 0 where
  pub is_item : IsItem model (item_in choice.placing)
  pub inactive : is_active lists (first_node (item_nodes (item_in choice.placing))) ≡ false
  pub vehicle : choice.vehicle < length lists
  pub within : AreWithin (route lists choice.vehicle) choice.placing
  pub stays_open : IsTrue (is_open model (inserted lists (insertion_of choice)))

-- choices of a class that add at least this much may be better than the best so far
abbrev pub may_improve : Option InsertionChoice → ℕ → ℤ → Bool
may_improve None class least = true
may_improve (Some best) class least = nat_lt class best.class || (nat_le class best.class && int_le least best.increase)

-- a visit adds at least this much before each place of the list of vehicle v
abbrev pub VisitAddsAtLeast : Model → ℕ → List ℕ → ℕ → ℤ → Type 0
VisitAddsAtLeast model v list node least = (t : ℕ) → t ≤ length list → least ≤ℤ visit_increase model v list node t

-- the same of a number that a visit may add
pub record IsLeastIncrease (model : Model) (v : ℕ) (list : List ℕ) (node : ℕ) (least : ℤ) : Type 0 where
  pub adds : VisitAddsAtLeast model v list node least
  pub small : IsIncrease least

-- a visit adds exactly this much before one of the last places of the list of vehicle v, from the k-th from its end on
pub record IsAddedAhead (model : Model) (v : ℕ) (list : List ℕ) (node k : ℕ) (least : ℤ) : Type 0 where
  pub place : ℕ
  pub from : length list ≤ place + k
  pub within : place ≤ length list
  pub adds : least ≡ visit_increase model v list node place

-- it is the least that a visit adds before one of these
pub record IsLeastAhead (model : Model) (v : ℕ) (list : List ℕ) (node k : ℕ) (least : ℤ) : Type 0 where
  pub behind : (t : ℕ) → length list ≤ t + k → t ≤ length list → least ≤ℤ visit_increase model v list node t
  pub added : IsAddedAhead model v list node k least
  pub low : neg_ℤ (pos (2 ^ 40)) ≤ℤ least
  pub high : least ≤ℤ pos (2 ^ 41)

-- the same of all places, counted from the end
pub record AreLeastAhead (model : Model) (v : ℕ) (list : List ℕ) (node : ℕ) (ahead : List ℤ) : Type 0 where
  pub one_of_each : length ahead ≡ suc (length list)
  pub each : (k : ℕ) (d : ℤ) → k < length ahead → IsLeastAhead model v list node k (slice_index_or ahead k d)

-- of the places before which a visit adds least to the list of vehicle v, the first
pub record IsFirstLeastPlace (model : Model) (v : ℕ) (list : List ℕ) (node place : ℕ) : Type 0 where
  pub within : place ≤ length list
  pub least : (t : ℕ) → t ≤ length list → visit_increase model v list node place ≤ℤ visit_increase model v list node t
  pub before : (t : ℕ) → t < place
      → (visit_increase model v list node place +ℤ pos 1) ≤ℤ visit_increase model v list node t
