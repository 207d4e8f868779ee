-- The items of a model, node by node.
use Rattle.std.proofs.Common.{◌≡◌, ◌∙◌, ◌<◌, ◌+◌, ◌++◌, ℕ, zero, suc, List, [], ◌∷◌, Bool, true, false, cond, Option, Some, None, refl, ap, ap₂, sym, subst}
use Rattle.std.proofs.Common.{arith, length, get_or}
use Rattle.std.specs.Prelude.{map, filter, ◌||◌, ◌==◌, slice_get, All, IfSome, if◌then◌else◌}
use Rattle.std.specs.List.{position_or_len}
use Rattle.std.proofs.lemmas.List.{append-nil, map-append}
use Rattle.std.proofs.lemmas.List.Elements.{filter-append, All-push}
use Rattle.std.proofs.lemmas.List.Folds.{find_at}
use Rattle.std.proofs.lemmas.Grind.{flat_map-append}
use Rattle.vr_model.specs.declared.records.Model.{Model}
use Rattle.vr_model.specs.declared.records.Pair.{Pair}
use Rattle.vr_model.specs.tables.Numbers.{below, each}
use Rattle.vr_model.specs.tables.Tables.{is_visit}
use Rattle.vr_model.specs.routes.Routes.{is_distinct}
use Rattle.vr_model.specs.first.Items.{items_at, pair_of}
use Rattle.vr_model.specs.deciding.Testing.{and_both}
use Rattle.vr_model.specs.tables.WellFormed.{IsWellFormed, IsPair, pair_nodes as nodes_of_pair}
use Rattle.vr_rules.specs.declared.items.Item.{Item}
use Rattle.vr_rules.specs.declared.items.Item.TheVariants.{Visit, PickupAndDelivery}
use Rattle.vr_rules.specs.declared.items.Candidate.{Candidate}
use Rattle.vr_rules.specs.Placing.{item_nodes, item_lists, IsItem, IsCandidate}
use Rattle.vr_model.proofs.tables.Ranges.{below-more}
use Rattle.vr_model.proofs.routes.Lists.{is_distinct-left, is_distinct-right}

-- the items of the visits below n
abbrev pub items_below : Model → ℕ → List (List ℕ)
items_below model n = each (filter (is_visit model) (below n)) (λ node. items_at (pair_of model node) node)

pub each-one : (b : Bool) (f : ℕ → List (List ℕ)) (n : ℕ) → each (cond b (n ∷ []) []) f ≡ (if b then f n else [])
each-one true f n = append-nil (f n)
each-one false f n = refl

pub items_below-more : (model : Model) (n : ℕ)
    → items_below model (n + 1) ≡ items_below model n ++ (if is_visit model n then items_at (pair_of model n) n else [])
items_below-more model n =
    let f = λ (node : ℕ). items_at (pair_of model node) node in
    ap (λ ns. each (filter (is_visit model) ns) f) (below-more n)
    ∙ ap (λ ns. each ns f) (filter-append (is_visit model) (below n) (n ∷ []))
    ∙ flat_map-append f (filter (is_visit model) (below n)) (cond (is_visit model n) (n ∷ []) [])
    ∙ ap (λ xs. items_below model n ++ xs) (each-one (is_visit model n) f n)

-- ---- each is an item

-- the pair that a node is in is one of the pairs
found : (model : Model) (node : ℕ) (pair : Pair) → pair_of model node ≡ Some pair
    → (k : ℕ) × (k < length model.pairs) × ((d : Pair) → get_or model.pairs k d ≡ pair)
found model node pair e =
    let p = λ (pair : Pair). (pair.pickup == node) || (pair.delivery == node) in
    at model.pairs (position_or_len p model.pairs) pair (sym (find_at p model.pairs) ∙ e)
  where
    at : (pairs : List Pair) (k : ℕ) (pair : Pair) → slice_get pairs k ≡ Some pair → (k : ℕ) × (k < length pairs) × ((d : Pair) → get_or pairs k d ≡ pair)
    at [] k pair e = absurd (cc)
    at (x ∷ xs) zero pair e = (0, omega arith, λ d. cc)
    at (x ∷ xs) (suc k) pair e = let r = at xs k pair e in let l = r.1 in (suc r.0, omega (arith, l), r.2)

distinct-nodes : (pairs : List Pair) (k : ℕ) (pair : Pair) → k < length pairs → ((d : Pair) → get_or pairs k d ≡ pair)
    → is_distinct (each pairs nodes_of_pair) ≡ true → is_distinct (nodes_of_pair pair) ≡ true
distinct-nodes [] k pair low is h = absurd (omega (arith, low))
distinct-nodes (x ∷ xs) zero pair low is h =
    subst (λ p. is_distinct (nodes_of_pair p) ≡ true) (is pair) (is_distinct-left (nodes_of_pair x) (each xs nodes_of_pair) h)
distinct-nodes (x ∷ xs) (suc k) pair low is h = distinct-nodes xs k pair (omega (arith, low)) is (is_distinct-right (nodes_of_pair x) (each xs nodes_of_pair) h)

of_pair : (model : Model) → IsWellFormed model → (node : ℕ) (pair : Pair)
    → pair_of model node ≡ Some pair → IsItem model (PickupAndDelivery pair.pickup pair.delivery)
of_pair model well_formed node pair e =
    let there = found model node pair e in
    let low = there.1 in
    let visits : IsPair model pair = subst (IsPair model) (there.2 pair) (well_formed.each_pair there.0 pair low) in
    record {
      visits = and_both (is_visit model pair.pickup) _ visits.pickup_is_visit (and_both (is_visit model pair.delivery) true visits.delivery_is_visit refl);
      distinct = distinct-nodes model.pairs there.0 pair low there.2 well_formed.no_node_in_pairs_twice;
      of_pairs = there;
    }

of_visit : (model : Model) (node : ℕ) → is_visit model node ≡ true → IsItem model (Visit node)
of_visit model node h = record { visits = and_both (is_visit model node) true h refl; distinct = refl; of_pairs = tt }

-- an item that a visit has
pub IsItem-visit : (model : Model) → IsWellFormed model → (node : ℕ) → is_visit model node ≡ true
    → (result : Option Item) → item_lists result ≡ items_at (pair_of model node) node → IfSome result (IsItem model)
IsItem-visit model well_formed node visit None e = tt
IsItem-visit model well_formed node visit (Some item) e = by item (pair_of model node) refl e
  where
    same_pair : (p d : ℕ) (pair : Pair) → (p ∷ d ∷ []) ∷ [] ≡ (pair.pickup ∷ pair.delivery ∷ []) ∷ []
        → PickupAndDelivery pair.pickup pair.delivery ≡ PickupAndDelivery p d
    same_pair p d pair e = cc

    one : (item : Item) (pair : Pair) → IsItem model (PickupAndDelivery pair.pickup pair.delivery) → (b : Bool)
        → item_nodes item ∷ [] ≡ cond b ((pair.pickup ∷ pair.delivery ∷ []) ∷ []) [] → IsItem model item
    one (Visit n) pair h true e = absurd (cc)
    one (PickupAndDelivery p d) pair h true e = subst (IsItem model) (same_pair p d pair e) h
    one item pair h false e = absurd (cc)

    by : (item : Item) (pair : Option Pair) → pair_of model node ≡ pair → item_nodes item ∷ [] ≡ items_at pair node → IsItem model item
    by (Visit n) None f e = let same : node ≡ n = cc in subst (λ n. IsItem model (Visit n)) same (of_visit model node visit)
    by (PickupAndDelivery p d) None f e = absurd (cc)
    by item (Some pair) f e = one item pair (of_pair model well_formed node pair f) (pair.pickup == node) e

-- the candidates of the nodes below n
pub record AreSoFar (model : Model) (n : ℕ) (candidates : List Candidate) : Type 0 where
  pub all : map (λ candidate. item_nodes candidate.item) candidates ≡ items_below model n
  pub each : All (IsCandidate model) candidates

pub so_far-item : (model : Model) (n : ℕ) (candidates : List Candidate) → AreSoFar model n candidates
    → (candidate : Candidate) → item_lists (Some candidate.item) ≡ (if is_visit model n then items_at (pair_of model n) n else []) → IsCandidate model candidate
    → AreSoFar model (n + 1) (candidates ++ candidate ∷ [])
so_far-item model n candidates before candidate is valid =
    let nodes = λ (candidate : Candidate). item_nodes candidate.item in
    record {
      all = map-append nodes candidates (candidate ∷ []) ∙ ap₂ (λ xs ys. xs ++ ys) before.all is ∙ sym (items_below-more model n);
      each = All-push (IsCandidate model) candidates candidate before.each valid;
    }

pub so_far-none : (model : Model) (n : ℕ) (candidates : List Candidate) → AreSoFar model n candidates
    → [] ≡ (if is_visit model n then items_at (pair_of model n) n else []) → AreSoFar model (n + 1) candidates
so_far-none model n candidates before is =
    record {
      all = before.all ∙ sym (append-nil (items_below model n)) ∙ ap (λ ys. items_below model n ++ ys) is ∙ sym (items_below-more model n);
      each = before.each;
    }
