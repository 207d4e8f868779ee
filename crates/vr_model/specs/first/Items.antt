-- Items, which the constructions place: a visit in no pair, or a pair.
use Rattle.std.specs.Prelude.{ℕ, ◌-◌, Bool, true, false, cond, not, ◌&&◌, ◌||◌, ◌==◌, List, [], ◌∷◌, length, filter}
use Rattle.std.specs.Prelude.{find, replicate, slice_index, Option, Some, None, fold, min, ℤ}
use Rattle.std.specs.List.{list_any}
use Rattle.vr_model.specs.tables.Numbers.{each}
use Rattle.vr_model.specs.tables.Tables.{visits}
use Rattle.vr_model.specs.routes.Routes.{holds, is_active}
use Rattle.vr_model.specs.routes.Rules.{is_grouped}
use Rattle.vr_model.specs.declared.records.Model.{Model}
use Rattle.vr_model.specs.declared.records.Pair.{Pair}

-- the item of a node, by the pair that the node is in: the node alone, the pickup with its delivery, none at a delivery
abbrev pub items_at : Option Pair → ℕ → List (List ℕ)
items_at None node = (node ∷ []) ∷ []
items_at (Some pair) node = cond (pair.pickup == node) ((pair.pickup ∷ pair.delivery ∷ []) ∷ []) []

-- the pair that a node is in
abbrev pub pair_of : Model → ℕ → Option Pair
pair_of model node = find (λ pair. (pair.pickup == node) || (pair.delivery == node)) model.pairs

-- the items, as lists of their nodes, ascending by their number: the first node
abbrev pub items : Model → List (List ℕ)
items model = each (visits model) λ node. items_at (pair_of model node) node

-- the first node of an item or a route
abbrev pub first_node : List ℕ → ℕ
first_node list = slice_index list 0

-- the last node of a route
abbrev pub last_node : List ℕ → ℕ
last_node list = slice_index list (length list - 1)

-- there is a penalty
abbrev pub is_penalty_given : Option ℤ → Bool
is_penalty_given None = false
is_penalty_given (Some penalty) = true

-- the node is in a group without a penalty
abbrev pub must_fill : Model → ℕ → Bool
must_fill model node = list_any (λ group. holds group.nodes node && not (is_penalty_given group.penalty)) model.groups

-- the class of a node: 0 outside all groups, 1 in a group without a penalty, 2 in another
abbrev pub node_class : Model → ℕ → ℕ
node_class model node = cond (is_grouped model node) (cond (must_fill model node) 1 2) 0

-- the class of an item, or of a route: the least of its nodes
abbrev pub class : Model → List ℕ → ℕ
class model nodes = fold (λ best node. min best (node_class model node)) 2 nodes

-- the items that are in no list
abbrev pub unplaced : Model → List (List ℕ) → List (List ℕ)
unplaced model lists = filter (λ item. not (is_active lists (first_node item))) (items model)

-- an empty list for each vehicle
abbrev pub empty_lists : Model → List (List ℕ)
empty_lists model = replicate (length model.vehicles) []
