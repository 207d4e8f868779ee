-- Each visit is in one item, and each item has a first node of its own.
use Rattle.std.proofs.Common.{◌≡◌, ◌∙◌, ℕ, List, [], ◌∷◌, Bool, true, false, cond, Option, Some, None, inl, inr, refl, ap, sym, subst}
use Rattle.std.specs.Prelude.{◌||◌, ◌==◌, find}
use Rattle.std.proofs.lemmas.Bool.{eqb-true, eq-eqb}
use Rattle.std.proofs.lemmas.List.Elements.{All-contains}
use Rattle.std.proofs.lemmas.List.Folds.{list_any-append}
use Rattle.vr_model.specs.declared.records.Model.{Model}
use Rattle.vr_model.specs.declared.records.Pair.{Pair}
use Rattle.vr_model.specs.tables.Numbers.{below, each}
use Rattle.vr_model.specs.tables.Tables.{is_visit, visits}
use Rattle.vr_model.specs.tables.WellFormed.{IsPair, IsWellFormed, pair_nodes as nodes_of_pair}
use Rattle.vr_model.specs.routes.Routes.{holds, is_distinct}
use Rattle.vr_model.specs.first.Items.{first_node, items, items_at, pair_of}
use Rattle.vr_model.proofs.tables.Tests.{clash, fails}
use Rattle.vr_model.proofs.tables.Members.{In, from_each, of_filter, to_below, to_contains, to_each, to_filter}
use Rattle.vr_model.proofs.routes.Lists.{is_distinct-right, visit_below}
use Rattle.vr_rules.specs.declared.items.Item.{Item}
use Rattle.vr_rules.specs.declared.items.Item.TheVariants.{Visit, PickupAndDelivery}
use Rattle.vr_rules.specs.Placing.{item_nodes, IsItem}
use Rattle.vr_rules.proofs.ItemLemmas.{IsItem-visit}
use Rattle.vr_rules.proofs.PlacingLemmas.{is_distinct-apart}

-- ---- a node is in one pair at most

abbrev has : ℕ → Pair → Bool
has node pair = (pair.pickup == node) || (pair.delivery == node)

swap : (x y : ℕ) → (x == y) ≡ true → (y == x) ≡ true
swap x y e = eq-eqb y x (sym (eqb-true x y e))

has-holds : (pair : Pair) (node : ℕ) → has node pair ≡ true → holds (nodes_of_pair pair) node ≡ true
has-holds pair node h = by (pair.pickup == node) refl h
  where
    second : (a b : Bool) → b ≡ true → (a || (b || false)) ≡ true
    second true b e = refl
    second false true e = refl
    second false false e = e

    by : (b : Bool) → (pair.pickup == node) ≡ b → (b || (pair.delivery == node)) ≡ true → holds (nodes_of_pair pair) node ≡ true
    by true e h = ap (λ b. b || ((node == pair.delivery) || false)) (swap pair.pickup node e)
    by false e h = second (node == pair.pickup) (node == pair.delivery) (swap pair.delivery node h)

holds-has : (pair : Pair) (node : ℕ) → holds (nodes_of_pair pair) node ≡ true → has node pair ≡ true
holds-has pair node h = by (node == pair.pickup) refl h
  where
    last : (b : Bool) → (b || false) ≡ true → b ≡ true
    last true e = refl
    last false e = e

    second : (a b : Bool) → b ≡ true → (a || b) ≡ true
    second true b e = refl
    second false b e = e

    by : (b : Bool) → (node == pair.pickup) ≡ b → (b || ((node == pair.delivery) || false)) ≡ true → ((pair.pickup == node) || (pair.delivery == node)) ≡ true
    by true e h = ap (λ b. b || (pair.delivery == node)) (swap node pair.pickup e)
    by false e h = second (pair.pickup == node) (pair.delivery == node) (swap node pair.delivery (last (node == pair.delivery) h))

some_is : {A : Type 0} (p q : A) → Some p ≡ Some q → p ≡ q
some_is p q e = cc

-- a pair that is found is one of the pairs, and has the node by which it was found
pub found-has : (pairs : List Pair) (n : ℕ) (pair : Pair) → find (has n) pairs ≡ Some pair → In pairs pair × (holds (nodes_of_pair pair) n ≡ true)
found-has [] n pair e = absurd (cc)
found-has (p ∷ ps) n pair e = by (has n p) refl e (found-has ps n pair)
  where
    by : (b : Bool) → has n p ≡ b → cond b (Some p) (find (has n) ps) ≡ Some pair
        → (find (has n) ps ≡ Some pair → In ps pair × (holds (nodes_of_pair pair) n ≡ true)) → In (p ∷ ps) pair × (holds (nodes_of_pair pair) n ≡ true)
    by true here e later = let same : p ≡ pair = some_is p pair e in (inl (sym same), subst (λ q. holds (nodes_of_pair q) n ≡ true) same (has-holds p n here))
    by false here e later = let r = later e in (inr r.0, r.1)

in_pairs : (pairs : List Pair) (pair : Pair) (x : ℕ) → In pairs pair → holds (nodes_of_pair pair) x ≡ true → holds (each pairs nodes_of_pair) x ≡ true
in_pairs [] pair x among h = absurd among
in_pairs (p ∷ ps) pair x (inl e) h = list_any-append (λ y. x == y) (nodes_of_pair p) (each ps nodes_of_pair)
    ∙ ap (λ b. b || holds (each ps nodes_of_pair) x) (subst (λ q. holds (nodes_of_pair q) x ≡ true) e h)
in_pairs (p ∷ ps) pair x (inr among) h = list_any-append (λ y. x == y) (nodes_of_pair p) (each ps nodes_of_pair)
    ∙ second (holds (nodes_of_pair p) x) (holds (each ps nodes_of_pair) x) (in_pairs ps pair x among h)
  where
    second : (a b : Bool) → b ≡ true → (a || b) ≡ true
    second true b e = refl
    second false b e = e

-- each node of a pair finds it
pub pair_found : (pairs : List Pair) (pair : Pair) → is_distinct (each pairs nodes_of_pair) ≡ true → In pairs pair
    → (x : ℕ) → holds (nodes_of_pair pair) x ≡ true → find (has x) pairs ≡ Some pair
pair_found [] pair d among x h = absurd among
pair_found (p ∷ ps) pair d (inl e) x h = ap (λ b. cond b (Some p) (find (has x) ps)) (holds-has p x (subst (λ q. holds (nodes_of_pair q) x ≡ true) e h))
    ∙ ap Some (sym e)
pair_found (p ∷ ps) pair d (inr among) x h =
    let absent : has x p ≡ false = fails (has x p) (λ there. clash (holds (each ps nodes_of_pair) x) (in_pairs ps pair x among h)
    (is_distinct-apart (nodes_of_pair p) (each ps nodes_of_pair) d x (has-holds p x there))) in
    ap (λ b. cond b (Some p) (find (has x) ps)) absent ∙ pair_found ps pair (is_distinct-right (nodes_of_pair p) (each ps nodes_of_pair) d) among x h

-- ---- the number of the item that a node is in

abbrev pub owner : Option Pair → ℕ → ℕ
owner None node = node
owner (Some pair) node = pair.pickup

pub one_of : (x n : ℕ) → holds (n ∷ []) x ≡ true → x ≡ n
one_of x n h = eqb-true x n (last (x == n) h)
  where
    last : (b : Bool) → (b || false) ≡ true → b ≡ true
    last true e = refl
    last false e = e

-- an item, as it is among those of a model: the visit that has it
pub record IsItemAt (model : Model) (item : List ℕ) (n : ℕ) : Type 0 where
  pub visit : is_visit model n ≡ true
  pub at : In (items_at (pair_of model n) n) item

pub item_at : (model : Model) (item : List ℕ) → In (items model) item → (n : ℕ) × IsItemAt model item n
item_at model item among = from_each (λ n. items_at (pair_of model n) n) (visits model) item among (λ n there at.
    (n, record { visit = (of_filter (is_visit model) (below model.nodes) n there).1; at = at }))

-- an item is a visit in no pair, or a pair
pub item_is : (model : Model) → IsWellFormed model → (item : List ℕ) → In (items model) item → (it : Item) × (item_nodes it ≡ item) × IsItem model it
item_is model well_formed item among = let a = item_at model item among in by a.0 a.1.visit (pair_of model a.0) refl a.1.at
  where
    one : (n : ℕ) → is_visit model n ≡ true → (pair : Pair) → pair_of model n ≡ Some pair → (b : Bool) → (pair.pickup == n) ≡ b
        → In (cond b ((pair.pickup ∷ pair.delivery ∷ []) ∷ []) []) item → (it : Item) × (item_nodes it ≡ item) × IsItem model it
    one n visit pair e true f (inl same) = (
      PickupAndDelivery pair.pickup pair.delivery,
      sym same,
      IsItem-visit model well_formed n visit (Some (PickupAndDelivery pair.pickup pair.delivery))
          (sym (ap (λ o. items_at o n) e ∙ ap (λ b. cond b ((pair.pickup ∷ pair.delivery ∷ []) ∷ []) []) f)),
    )
    one n visit pair e true f (inr none) = absurd none
    one n visit pair e false f none = absurd none

    by : (n : ℕ) → is_visit model n ≡ true → (o : Option Pair) → pair_of model n ≡ o
        → In (items_at o n) item → (it : Item) × (item_nodes it ≡ item) × IsItem model it
    by n visit None e (inl same) = (Visit n, sym same, IsItem-visit model well_formed n visit (Some (Visit n)) (sym (ap (λ o. items_at o n) e)))
    by n visit None e (inr none) = absurd none
    by n visit (Some pair) e among = one n visit pair e (pair.pickup == n) refl among

-- each node of an item has its first node as the owner
pub owned : (model : Model) → IsWellFormed model → (item : List ℕ) → In (items model) item
    → (x : ℕ) → holds item x ≡ true → owner (pair_of model x) x ≡ first_node item
owned model well_formed item among x h = let a = item_at model item among in by a.0 (pair_of model a.0) refl a.1.at
  where
    one : (n : ℕ) (pair : Pair) → pair_of model n ≡ Some pair → (b : Bool)
        → In (cond b ((pair.pickup ∷ pair.delivery ∷ []) ∷ []) []) item → owner (pair_of model x) x ≡ first_node item
    one n pair e true (inl same) =
        let found = pair_found model.pairs pair well_formed.no_node_in_pairs_twice
        (found-has model.pairs n pair e).0 x (subst (λ nodes. holds nodes x ≡ true) same h) in
        ap (λ o. owner o x) found ∙ sym (ap first_node same)
    one n pair e true (inr none) = absurd none
    one n pair e false none = absurd none

    by : (n : ℕ) (o : Option Pair) → pair_of model n ≡ o → In (items_at o n) item → owner (pair_of model x) x ≡ first_node item
    by n None e (inl same) =
        let is : x ≡ n = one_of x n (subst (λ nodes. holds nodes x ≡ true) same h) in
        subst (λ y. owner (pair_of model y) y ≡ first_node item) (sym is) (ap (λ o. owner o n) e ∙ sym (ap first_node same))
    by n None e (inr none) = absurd none
    by n (Some pair) e among = one n pair e (pair.pickup == n) among

-- ---- the item of a visit

-- a visit is among the visits
pub visit_in : (model : Model) (x : ℕ) → is_visit model x ≡ true → In (visits model) x
visit_in model x visit = to_filter (is_visit model) (below model.nodes) x (to_below model.nodes x (visit_below model x visit)) visit

-- each visit is in an item: alone, or with the other node of its pair
pub in_item : (model : Model) → IsWellFormed model → (x : ℕ) → is_visit model x ≡ true → (item : List ℕ) × In (items model) item × (holds item x ≡ true)
in_item model well_formed x visit = by (pair_of model x) refl
  where
    by : (o : Option Pair) → pair_of model x ≡ o → (item : List ℕ) × In (items model) item × (holds item x ≡ true)
    by None e = (
      x ∷ [],
      to_each (λ n. items_at (pair_of model n) n) (visits model) x (x ∷ [])
          (visit_in model x visit) (subst (λ o. In (items_at o x) (x ∷ [])) (sym e) (inl refl)),
      ap (λ b. b || false) (eq-eqb x x refl),
    )
    by (Some pair) e =
        let found = found-has model.pairs x pair e in
        let nodes = pair.pickup ∷ pair.delivery ∷ [] in
        let first : holds (nodes_of_pair pair) pair.pickup ≡ true = ap (λ b. b || ((pair.pickup == pair.delivery) || false))
        (eq-eqb pair.pickup pair.pickup refl) in
        let at : pair_of model pair.pickup ≡ Some pair = pair_found model.pairs pair well_formed.no_node_in_pairs_twice found.0 pair.pickup first in
        let there : In (items_at (pair_of model pair.pickup) pair.pickup) nodes =
        subst (λ o. In (items_at o pair.pickup) nodes) (sym at)
        (subst (λ b. In (cond b (nodes ∷ []) []) nodes) (sym (eq-eqb pair.pickup pair.pickup refl)) (inl refl)) in
        let is : IsPair model pair = All-contains (IsPair model) model.pairs pair well_formed.each_pair (to_contains model.pairs pair found.0) in
        (nodes, to_each (λ n. items_at (pair_of model n) n) (visits model) pair.pickup nodes (visit_in model pair.pickup is.pickup_is_visit) there, found.1)
