-- What may be appended next, as code compares it.
use Rattle.std.specs.Prelude.{◌≡◌, ℕ, ◌&&◌, Bool, false, List, [], ◌∷◌, ◌++◌, ℤ, pos, IsTrue, Option, cond, fold}
use Rattle.std.specs.Prelude.{length}
use Rattle.std.specs.List.{list_all}
use Rattle.vr_model.specs.tables.Numbers.{below}
use Rattle.vr_model.specs.tables.Tables.{arc_cost}
use Rattle.vr_model.specs.routes.Routes.{is_active}
use Rattle.vr_model.specs.routes.Rules.{is_open, is_route_open}
use Rattle.vr_model.specs.first.Choosing.{better}
use Rattle.vr_model.specs.first.Items.{first_node, items}
use Rattle.vr_model.specs.first.PathCheapestArc.{appended, filled}
use Rattle.vr_model.specs.declared.records.Model.{Model}
use Rattle.vr_rules.specs.declared.items.Item.{Item}
use Rattle.vr_rules.specs.declared.items.Candidate.{Candidate}
use Rattle.vr_rules.specs.Fronts.{tail}
use Rattle.vr_rules.specs.Placing.{item_nodes, has_room, is_marked, IsItem}
use Rattle.vr_first_arc.specs.declared.choice.ArcChoice.{ArcChoice}

-- what a choice is compared by: the class, the cost of the arc, the number
abbrev pub arc_key : ArcChoice → List ℤ
arc_key choice = pos choice.class ∷ choice.cost ∷ pos (first_node (item_nodes choice.item)) ∷ []

-- the item of a choice
abbrev pub item_of_choice : ArcChoice → Item
item_of_choice choice = choice.item

-- the nodes of a choice
abbrev pub nodes_of_choice : ArcChoice → List ℕ
nodes_of_choice choice = item_nodes choice.item

-- the choice of a candidate after a node
abbrev pub choice_of : Model → ℕ → ℕ → Candidate → ArcChoice
choice_of model v at candidate = record {
  item = candidate.item;
  class = candidate.class;
  cost = arc_cost model v at (first_node (item_nodes candidate.item));
}

-- the longer list of vehicle v is open, and the groups have room for the item
abbrev pub may_append : Model → ℕ → List ℕ → List Bool → Item → Bool
may_append model v list marks item = is_route_open model v (list ++ item_nodes item)
    && list_all (has_room marks item) model.groups

-- an item that may be appended to the list of vehicle v: it is in no list, and the lists stay open
pub record MayBeAppended (model : Model) (lists : List (List ℕ)) (v : ℕ) (item : Item) : Type 0 where
  pub is_item : IsItem model item
  pub inactive : is_active lists (first_node (item_nodes item)) ≡ false
  pub stays_open : IsTrue (is_open model (appended lists v (item_nodes item)))

-- the better of the best choice so far and a candidate. The candidate counts only if its first node is not marked and
-- it may be appended.
abbrev pub chosen_beside : Model → ℕ → List ℕ → List Bool → Candidate → Option ArcChoice → Option ArcChoice
chosen_beside model v list marks candidate best = let next = choice_of model v (tail model v list) candidate in
    cond (is_marked marks (first_node (item_nodes candidate.item))) best
    (cond (may_append model v list marks candidate.item) (better arc_key best next) best)

-- the lists of the first vehicles are filled in turn
abbrev pub all_filled : Model → ℕ → List (List ℕ) → List (List ℕ)
all_filled model count lists = fold (λ lists v. filled model v (length (items model)) lists) lists (below count)
