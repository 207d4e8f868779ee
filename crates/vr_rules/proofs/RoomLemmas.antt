-- Room in groups, and classes of nodes, by the numbers of groups.
use Rattle.std.proofs.Common.{◌≡◌, ◌∙◌, ◌<◌, ◌≤◌, ℕ, List, Bool, true, false, cond, not, ◌⊎◌, inl, inr, refl, ap, ap₂, sym, arith, length, get_or}
use Rattle.std.specs.Prelude.{◌&&◌, ◌||◌, nat_le, nat_lt, count_by, IsTrue}
use Rattle.std.specs.List.{list_all}
use Rattle.std.proofs.lemmas.Bool.{cases_lt}
use Rattle.std.proofs.lemmas.Bool.Decides.{nat_tests}
use Rattle.std.proofs.lemmas.Grind.{get_or_default_zero}
use Rattle.std.proofs.lemmas.List.{get_or_default}
use Rattle.vr_model.specs.declared.records.Model.{Model}
use Rattle.vr_model.specs.declared.records.Group.{Group}
use Rattle.vr_model.specs.first.Items.{is_penalty_given, must_fill, node_class}
use Rattle.vr_model.specs.routes.Routes.{holds}
use Rattle.vr_model.specs.routes.Rules.{is_grouped}
use Rattle.vr_model.specs.tables.Numbers.{each}
use Rattle.vr_model.specs.tables.WellFormed.{IsWellFormed}
use Rattle.vr_model.proofs.moves.Times.{times_of_distinct, all_held}
use Rattle.vr_model.proofs.routes.Lists.{visit_below, held_at}
use Rattle.vr_model.proofs.tables.Tests.{all-from_list_all, clash, list_all-true, same_tests}
use Rattle.vr_lists.specs.Nodes.{group_at, group_number, no_group}
use Rattle.vr_lists.proofs.NodeLemmas.{any_number}
use Rattle.vr_lists.proofs.GroupLemmas.{nodes_in, number_at, needed-number}
use Rattle.vr_rules.specs.declared.items.Item.{Item}
use Rattle.vr_rules.specs.declared.items.Item.TheVariants.{Visit, PickupAndDelivery}
use Rattle.vr_rules.specs.Placing.{fits_by, has_room, has_room_at, is_marked, is_taken, item_nodes, AreMarkedToo}
use Rattle.vr_rules.proofs.PlacingLemmas.{count_by-within, list_all-within}

beyond : (n g : ℕ) → g < n → nat_le n g ≡ false
beyond n g low = grind (arith, nat_tests)

reached : (n g : ℕ) → n ≤ g → nat_le n g ≡ true
reached n g past = grind (arith, nat_tests)

within_test : (g n : ℕ) → g < n → nat_lt g n ≡ true
within_test g n low = grind (arith, nat_tests)

past_test : (g n : ℕ) → n ≤ g → nat_lt g n ≡ false
past_test g n past = grind (arith, nat_tests)

or-true : (b : Bool) → (b || true) ≡ true
or-true true = refl
or-true false = refl

and-true : (b : Bool) → (b && true) ≡ b
and-true true = refl
and-true false = refl

-- a test of the nodes of an item
pub of_visit : (p : Item → ℕ → Bool) (item : Item) (node : ℕ) (a : Bool) → item ≡ Visit node → a ≡ p (Visit node) node → a ≡ list_all (p item) (item_nodes item)
of_visit p item node a is tells = tells ∙ sym (and-true (p (Visit node) node)) ∙ sym (ap (λ i. list_all (p i) (item_nodes i)) is)

pub of_pair : (p : Item → ℕ → Bool) (item : Item) (pickup delivery : ℕ) (a b : Bool) → item ≡ PickupAndDelivery pickup delivery
    → a ≡ p (PickupAndDelivery pickup delivery) pickup → b ≡ p (PickupAndDelivery pickup delivery) delivery → (a && b) ≡ list_all (p item) (item_nodes item)
of_pair p item pickup delivery a b is one other =
    ap₂ (λ x y. x && y) one (other ∙ sym (and-true (p (PickupAndDelivery pickup delivery) delivery))) ∙ sym (ap (λ i. list_all (p i) (item_nodes i)) is)

pub of_pickup : (p : Item → ℕ → Bool) (item : Item) (pickup delivery : ℕ) (a : Bool) → item ≡ PickupAndDelivery pickup delivery
    → a ≡ p (PickupAndDelivery pickup delivery) pickup → a ≡ false → a ≡ list_all (p item) (item_nodes item)
of_pickup p item pickup delivery a is one none =
    none ∙ sym (ap (λ b. b && (p (PickupAndDelivery pickup delivery) delivery && true)) (sym one ∙ none)) ∙ sym (ap (λ i. list_all (p i) (item_nodes i)) is)

-- ---- classes

-- a node of no group
pub class_free : (model : Model) (node g : ℕ) → g ≡ group_number model node → length model.groups ≤ g → 0 ≡ node_class model node
class_free model node g is past =
    let none : is_grouped model node ≡ false =
    any_number (λ (group : Group). holds group.nodes node) model.groups ∙ past_test (group_number model node) (length model.groups) (omega (arith, is, past)) in
    sym (ap (λ b. cond b (cond (must_fill model node) 1 2) 0) none)

-- a node of a group
pub class_in : (model : Model) → IsWellFormed model → (node g : ℕ) (group : Group) (free : Bool)
    → g ≡ group_number model node → g < length model.groups → group_at model g ≡ group
    → free ≡ not (is_penalty_given group.penalty) → cond free 1 2 ≡ node_class model node
class_in model well_formed node g group free is low at free_is =
    let within : group_number model node < length model.groups = omega (arith, is, low) in
    let grouped : is_grouped model node ≡ true = any_number (λ (group : Group). holds group.nodes node) model.groups
    ∙ within_test (group_number model node) (length model.groups) within in
    let needed : must_fill model node ≡ free =
    needed-number model.groups node (times_of_distinct (each model.groups nodes_in) well_formed.no_node_in_groups_twice node) within
    ∙ ap (λ k. not (is_penalty_given (group_at model k).penalty)) (sym is) ∙ ap (λ (q : Group). not (is_penalty_given q.penalty)) at ∙ sym free_is in
    ap (λ b. cond b 1 2) (sym needed) ∙ sym (ap (λ b. cond b (cond (must_fill model node) 1 2) 0) grouped)

-- ---- room

-- of the group of a node
pub room_in : (model : Model) (marks : List Bool) (item : Item) (node g : ℕ) (group : Group)
    → g ≡ group_number model node → g < length model.groups → group_at model g ≡ group
    → has_room marks item group ≡ has_room_at model marks item node
room_in model marks item node g group is low at =
    ap (has_room marks item) (sym at)
    ∙ sym (ap (λ b. b || has_room marks item (group_at model g)) (beyond (length model.groups) g low))
    ∙ ap (λ k. nat_le (length model.groups) k || has_room marks item (group_at model k)) is

-- of a node in none
pub room_free : (model : Model) (marks : List Bool) (item : Item) (node g : ℕ)
    → g ≡ group_number model node → length model.groups ≤ g → true ≡ has_room_at model marks item node
room_free model marks item node g is past =
    sym (ap (λ b. b || has_room marks item (group_at model g)) (reached (length model.groups) g past))
    ∙ ap (λ k. nat_le (length model.groups) k || has_room marks item (group_at model k)) is

module _ (model : Model) (well_formed : IsWellFormed model) (marks : List Bool) (item : Item) where
  -- the room at a node is that of a group that it stands in
  at_number : (g : ℕ) → g < length model.groups → (y : ℕ) → IsTrue (holds (group_at model g).nodes y)
      → has_room_at model marks item y ≡ has_room marks item (group_at model g)
  at_number g low y held =
      let few = times_of_distinct (each model.groups nodes_in) well_formed.no_node_in_groups_twice y in
      sym (room_in model marks item y g (group_at model g) (sym (number_at model.groups g y few low held)) low refl)

  -- a group has room where those of the nodes of the item have, and it has room for what is marked
  in_each : list_all (fits_by marks) model.groups ≡ true → list_all (has_room_at model marks item) (item_nodes item) ≡ true → (g : ℕ) → g < length model.groups
      → has_room marks item (group_at model g) ≡ true
  in_each fit nodes g low = by (has_room marks item (group_at model g)) refl
    where
      group : Group
      group = group_at model g

      apart : (i d : ℕ) → i < length group.nodes → holds (item_nodes item) (get_or group.nodes i d) ≡ false ⊎ has_room marks item group ≡ true
      apart i d within = tell (holds (item_nodes item) (get_or group.nodes i d)) refl
        where
          node : ℕ
          node = get_or group.nodes i d

          tell : (b : Bool) → holds (item_nodes item) node ≡ b → b ≡ false ⊎ has_room marks item group ≡ true
          tell false e = inl refl
          tell true e =
              let held : IsTrue (holds group.nodes node) = held_at group.nodes node i within (sym (get_or_default_zero group.nodes i d within)) in
              inr (sym (at_number g low node held) ∙ all_held (has_room_at model marks item) (item_nodes item) nodes node e)

      by : (b : Bool) → has_room marks item group ≡ b → b ≡ true
      by true e = refl
      by false e =
          let same : count_by (is_taken marks item) group.nodes ≡ count_by (is_marked marks) group.nodes = count_by-within (is_taken marks item)
          (is_marked marks) group.nodes
          (λ i d within. elim (apart i d within) [
            | inl other ↦ ap (λ b. b || is_marked marks (get_or group.nodes i d)) other
            | inr room ↦ absurd (clash (has_room marks item group) room e)
          ]) in
          let fits : fits_by marks group ≡ true = all-from_list_all (fits_by marks) model.groups fit g no_group low in
          absurd (clash (has_room marks item group) (ap (λ n. nat_le n group.max) same ∙ fits) e)

  -- and so the other way round
  at_node : list_all (has_room marks item) model.groups ≡ true → (y : ℕ) → has_room_at model marks item y ≡ true
  at_node all y = elim (cases_lt (group_number model y) (length model.groups)) [
    | inl low ↦ ap (λ b. nat_le (length model.groups) (group_number model y) || b)
        (all-from_list_all (has_room marks item) model.groups all (group_number model y) no_group low)
        ∙ or-true (nat_le (length model.groups) (group_number model y))
    | inr past ↦ ap (λ b. b || has_room marks item (group_at model (group_number model y))) (reached (length model.groups) (group_number model y) past)
  ]

  pub room_by_nodes : list_all (fits_by marks) model.groups ≡ true
      → list_all (has_room_at model marks item) (item_nodes item) ≡ list_all (has_room marks item) model.groups
  room_by_nodes fit = same_tests (list_all (has_room_at model marks item) (item_nodes item)) (list_all (has_room marks item) model.groups)
      (λ nodes. list_all-within (has_room marks item) (λ q. true) model.groups
      (λ g d low. ap (has_room marks item) (get_or_default model.groups g d no_group low) ∙ in_each fit nodes g low)
      ∙ list_all-true (λ (q : Group). true) (λ q. refl) model.groups)
      (λ all. list_all-true (has_room_at model marks item) (at_node all) (item_nodes item))

  -- the groups that have room for an item have room for what is marked with it
  pub fits_marked : (marked : List Bool) → length marks ≡ model.nodes
      → AreMarkedToo marks (item_nodes item) marked → list_all (has_room marks item) model.groups ≡ true
      → list_all (fits_by marked) model.groups ≡ true
  fits_marked marked long each_is all =
      list_all-within (fits_by marked) (has_room marks item) model.groups (λ g d low.
      let group = get_or model.groups g d in
      ap (λ n. nat_le n group.max) (count_by-within (is_marked marked) (is_taken marks item) group.nodes (λ k node node_low.
      let below = visit_below model (get_or group.nodes k node) ((well_formed.each_group g d low).each_node_is_visit k node node_low) in
      each_is (get_or group.nodes k node) false (omega (arith, below, long)))))
      ∙ all
