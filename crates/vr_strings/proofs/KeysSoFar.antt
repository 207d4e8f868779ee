-- The keys of items, node by node, and the class of a node by the number of its group.
use Rattle.std.proofs.Common.{◌≡◌, ◌∙◌, ◌<◌, ◌≤◌, ◌+◌, ◌++◌, ℕ, List, [], ◌∷◌, Bool, true, false, cond, not, refl, ap, ap₂, sym, arith, length}
use Rattle.std.specs.Prelude.{map, filter, nat_lt, if◌then◌else◌}
use Rattle.std.proofs.lemmas.Bool.Decides.{nat_tests}
use Rattle.std.proofs.lemmas.List.{append-nil, map-append, length-append}
use Rattle.std.proofs.lemmas.List.Elements.{filter-append}
use Rattle.std.proofs.lemmas.Grind.{flat_map-append}
use Rattle.vr_model.specs.declared.records.Model.{Model}
use Rattle.vr_model.specs.declared.records.Group.{Group}
use Rattle.vr_model.specs.tables.Numbers.{below, each}
use Rattle.vr_model.specs.tables.Tables.{is_visit}
use Rattle.vr_model.specs.tables.WellFormed.{IsWellFormed}
use Rattle.vr_model.specs.routes.Routes.{holds}
use Rattle.vr_model.specs.routes.Rules.{is_grouped}
use Rattle.vr_model.specs.first.Items.{items_at, pair_of, is_penalty_given, must_fill, node_class}
use Rattle.vr_model.proofs.moves.Times.{times_of_distinct}
use Rattle.vr_model.proofs.tables.Ranges.{below-more}
use Rattle.vr_lists.specs.Nodes.{group_at, group_number}
use Rattle.vr_lists.proofs.NodeLemmas.{any_number}
use Rattle.vr_lists.proofs.GroupLemmas.{nodes_in, needed-number}
use Rattle.vr_strings.specs.declared.items.ItemKey.{ItemKey}
use Rattle.vr_strings.specs.ItemKeys.{item_key}

-- ---- the items of the nodes so far

abbrev pub items_below : Model → ℕ → List (List ℕ)
items_below model n = each (filter (is_visit model) (below n)) (λ node. items_at (pair_of model node) node)

-- the item of a node that is a visit
abbrev pub item_of : Model → ℕ → List (List ℕ)
item_of model n = if is_visit model n then items_at (pair_of model n) n else []

each-one : (b : Bool) (f : ℕ → List (List ℕ)) (n : ℕ) → each (cond b (n ∷ []) []) f ≡ (if b then f n else [])
each-one true f n = append-nil (f n)
each-one false f n = refl

items_below-more : (model : Model) (n : ℕ) → items_below model (n + 1) ≡ items_below model n ++ item_of model n
items_below-more model n =
    let f = λ (node : ℕ). items_at (pair_of model node) node in
    ap (λ ns. each (filter (is_visit model) ns) f) (below-more n)
    ∙ ap (λ ns. each ns f) (filter-append (is_visit model) (below n) (n ∷ []))
    ∙ flat_map-append f (filter (is_visit model) (below n)) (cond (is_visit model n) (n ∷ []) [])
    ∙ ap (λ xs. items_below model n ++ xs) (each-one (is_visit model n) f n)

-- the keys of the nodes below n
pub record AreKeysSoFar (model : Model) (n : ℕ) (keys : List ItemKey) : Type 0 where
  pub all : keys ≡ map (item_key model) (items_below model n)
  pub few : length keys ≤ n

pub keys_put : (model : Model) (n : ℕ) (keys : List ItemKey) (key : ItemKey) → AreKeysSoFar model n keys
    → key ∷ [] ≡ map (item_key model) (item_of model n) → AreKeysSoFar model (n + 1) (keys ++ key ∷ [])
keys_put model n keys key before is =
    let long = length-append keys (key ∷ []) in
    let few = before.few in
    record {
      all = ap₂ (λ xs ys. xs ++ ys) before.all is ∙ sym (map-append (item_key model) (items_below model n) (item_of model n))
          ∙ sym (ap (map (item_key model)) (items_below-more model n));
      few = omega (arith, long, few);
    }

pub keys_left : (model : Model) (n : ℕ) (keys : List ItemKey) → AreKeysSoFar model n keys
    → [] ≡ map (item_key model) (item_of model n) → AreKeysSoFar model (n + 1) keys
keys_left model n keys before is =
    let few = before.few in
    record {
      all = before.all ∙ sym (append-nil (map (item_key model) (items_below model n))) ∙ ap (λ ys. map (item_key model) (items_below model n) ++ ys) is
          ∙ sym (map-append (item_key model) (items_below model n) (item_of model n)) ∙ sym (ap (map (item_key model)) (items_below-more model n));
      few = omega (arith, few);
    }

-- ---- classes

within_test : (g n : ℕ) → g < n → nat_lt g n ≡ true
within_test g n low = grind (arith, nat_tests)

past_test : (g n : ℕ) → n ≤ g → nat_lt g n ≡ false
past_test g n past = grind (arith, nat_tests)

-- a node of no group
pub class_free : (model : Model) (node g : ℕ) → g ≡ group_number model node → length model.groups ≤ g → 0 ≡ node_class model node
class_free model node g is past =
    let none : is_grouped model node ≡ false =
    any_number (λ (group : Group). holds group.nodes node) model.groups ∙ past_test (group_number model node) (length model.groups) (omega (arith, is, past)) in
    sym (ap (λ b. cond b (cond (must_fill model node) 1 2) 0) none)

-- a node of a group
pub class_in : (model : Model) → IsWellFormed model → (node g : ℕ) (group : Group) (free : Bool)
    → g ≡ group_number model node → g < length model.groups → group_at model g ≡ group
    → free ≡ not (is_penalty_given group.penalty) → cond free 1 2 ≡ node_class model node
class_in model well_formed node g group free is low at free_is =
    let within : group_number model node < length model.groups = omega (arith, is, low) in
    let grouped : is_grouped model node ≡ true = any_number (λ (group : Group). holds group.nodes node) model.groups
    ∙ within_test (group_number model node) (length model.groups) within in
    let needed : must_fill model node ≡ free =
    needed-number model.groups node (times_of_distinct (each model.groups nodes_in) well_formed.no_node_in_groups_twice node) within
    ∙ ap (λ k. not (is_penalty_given (group_at model k).penalty)) (sym is) ∙ ap (λ (q : Group). not (is_penalty_given q.penalty)) at ∙ sym free_is in
    ap (λ b. cond b 1 2) (sym needed) ∙ sym (ap (λ b. cond b (cond (must_fill model node) 1 2) 0) grouped)
