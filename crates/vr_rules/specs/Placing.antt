-- Items and marks, which the constructions of first solutions share.
use Rattle.std.specs.Prelude.{◌≡◌, ℕ, ◌<◌, ℤ, Bool, true, false, ◌&&◌, ◌||◌, nat_le, IsTrue}
use Rattle.std.specs.Prelude.{List, [], ◌∷◌, length, map, count_by, slice_index_or, option_map, Option, Some, None, ⊤}
use Rattle.std.specs.List.{All, list_all}
use Rattle.vr_model.specs.tables.Numbers.{is_lex_less}
use Rattle.vr_model.specs.tables.Tables.{is_visit, visits}
use Rattle.vr_model.specs.routes.Routes.{holds, is_active, is_distinct, are_lists}
use Rattle.vr_model.specs.routes.Rules.{is_open, fits_group, is_grouped, has_enough}
use Rattle.vr_model.specs.routes.Costs.{penalty_for}
use Rattle.vr_model.specs.first.Items.{class, items}
use Rattle.vr_model.specs.declared.records.Model.{Model}
use Rattle.vr_model.specs.declared.records.Group.{Group}
use Rattle.vr_model.specs.declared.records.Pair.{Pair}
use Rattle.vr_lists.specs.Nodes.{group_at, group_number}
use Rattle.vr_routes.specs.Tours.{Tours}
use Rattle.vr_rules.specs.declared.items.Item.{Item}
use Rattle.vr_rules.specs.declared.items.Item.TheVariants.{Visit, PickupAndDelivery}
use Rattle.vr_rules.specs.declared.items.Candidate.{Candidate}

-- the nodes of an item
abbrev pub item_nodes : Item → List ℕ
item_nodes (Visit node) = node ∷ []
item_nodes (PickupAndDelivery pickup delivery) = pickup ∷ delivery ∷ []

-- the nodes of an item that may not be there
abbrev pub item_lists : Option Item → List (List ℕ)
item_lists None = []
item_lists (Some item) = item_nodes item ∷ []

-- the nodes of an item are one of the pairs, if they are two
abbrev pub IsOfPairs : Model → Item → Type 0
IsOfPairs model (Visit node) = ⊤
IsOfPairs model (PickupAndDelivery pickup delivery) = (k : ℕ) × (k < length model.pairs)
    × ((d : Pair) → slice_index_or model.pairs k d ≡ record { pickup = pickup; delivery = delivery })

-- an item of a model: its nodes are distinct visits, and two are a pair
pub record IsItem (model : Model) (item : Item) : Type 0 where
  pub visits : IsTrue (list_all (is_visit model) (item_nodes item))
  pub distinct : IsTrue (is_distinct (item_nodes item))
  pub of_pairs : IsOfPairs model item

-- an item of a model with its class
pub record IsCandidate (model : Model) (candidate : Candidate) : Type 0 where
  pub class : candidate.class ≡ class model (item_nodes candidate.item)
  pub item : IsItem model candidate.item

-- all items of a model with their classes, in order
pub record AreCandidates (model : Model) (candidates : List Candidate) : Type 0 where
  pub all : map (λ candidate. item_nodes candidate.item) candidates ≡ items model
  pub each : All (IsCandidate model) candidates

-- for each node whether it is active
pub record AreMarks (nodes : ℕ) (lists : List (List ℕ)) (marks : List Bool) : Type 0 where
  pub one_of_each : length marks ≡ nodes
  pub each : (node : ℕ) (d : Bool) → node < nodes → slice_index_or marks node d ≡ is_active lists node

-- the marks after some nodes were marked too
abbrev pub AreMarkedToo : List Bool → List ℕ → List Bool → Type 0
AreMarkedToo before nodes marks = (node : ℕ) (d : Bool) → node < length before
    → slice_index_or marks node d ≡ (holds nodes node || slice_index_or before node d)

-- the node is marked
abbrev pub is_marked : List Bool → ℕ → Bool
is_marked marks node = slice_index_or marks node false

-- the node is marked, or in the item
abbrev pub is_taken : List Bool → Item → ℕ → Bool
is_taken marks item node = holds (item_nodes item) node || is_marked marks node

-- the group has room for the item beside the marked nodes
abbrev pub has_room : List Bool → Item → Group → Bool
has_room marks item group = nat_le (count_by (is_taken marks item) group.nodes) group.max

-- the group of a node, if it is in one, has room for the item beside the marked nodes
abbrev pub has_room_at : Model → List Bool → Item → ℕ → Bool
has_room_at model marks item node = nat_le (length model.groups) (group_number model node)
    || has_room marks item (group_at model (group_number model node))

-- no group gets more active nodes than it may have from nodes beside lists
abbrev pub fits_beside : Model → List (List ℕ) → List ℕ → Bool
fits_beside model lists nodes = list_all (fits_group (nodes ∷ lists)) model.groups

-- the group has no more marked nodes than it may have
abbrev pub fits_by : List Bool → Group → Bool
fits_by marks group = nat_le (count_by (is_marked marks) group.nodes) group.max

-- the group has a penalty, or as many marked nodes as it may have
abbrev pub is_filled_by : List Bool → Group → Bool
is_filled_by marks group = has_enough group.penalty group.max (count_by (is_marked marks) group.nodes)

-- what the group costs by the marks of its nodes
abbrev pub penalty_by : List Bool → Group → ℤ
penalty_by marks group = penalty_for group.penalty group.max (count_by (is_marked marks) group.nodes)

-- each visit in no group is marked, and each group without a penalty has as many marked nodes as it may have
abbrev pub is_complete : Model → List Bool → Bool
is_complete model marks = list_all (λ node. is_grouped model node || is_marked marks node) (visits model)
    && list_all (is_filled_by marks) model.groups

-- lists to which items are added: lists of the model that are open
pub record AreBuilt (model : Model) (lists : List (List ℕ)) : Type 0 where
  pub are_lists : IsTrue (are_lists model lists)
  pub are_open : IsTrue (is_open model lists)

-- the lists of routes that may not be there
abbrev pub lists_in : Option Tours → Option (List (List ℕ))
lists_in answer = option_map (λ routes. routes.lists) answer

-- what code compares is better than the best so far: there is none yet, or its key is less
abbrev pub improves : {C : Type 0} → (C → List ℤ) → Option C → C → Bool
improves key None y = true
improves key (Some best) y = is_lex_less (key y) (key best)
