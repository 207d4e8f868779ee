-- The items of a model stand apart, in order of their classes too.
use Rattle.std.proofs.Common.{◌≡◌, ◌∙◌, ◌<◌, ◌+◌, ◌++◌, ℕ, zero, suc, List, [], ◌∷◌, Bool, true, false, cond, not, Option, Some, None, refl, ap, ap₂, sym}
use Rattle.std.proofs.Common.{subst, arith, length}
use Rattle.std.specs.Prelude.{◌&&◌, ◌||◌, ◌==◌, map, filter, find, fold, All}
use Rattle.std.specs.List.{list_all, concat, range_with_len}
use Rattle.std.proofs.lemmas.Bool.{eqb-true, eq-eqb}
use Rattle.std.proofs.lemmas.List.{append-nil, map-append}
use Rattle.std.proofs.lemmas.List.Elements.{All-cons, All-append, All-filter}
use Rattle.std.proofs.lemmas.Grind.{flat_map-append}
use Rattle.vr_model.specs.declared.records.Model.{Model}
use Rattle.vr_model.specs.declared.records.Pair.{Pair}
use Rattle.vr_model.specs.tables.Numbers.{below, from_to, each}
use Rattle.vr_model.specs.tables.Tables.{is_visit, visits}
use Rattle.vr_model.specs.routes.Routes.{holds, is_distinct}
use Rattle.vr_model.specs.first.Items.{class, items, items_at, pair_of}
use Rattle.vr_model.specs.first.SavingsJoins.{items_by_class, single_routes}
use Rattle.vr_model.specs.deciding.Testing.{and_both}
use Rattle.vr_model.proofs.tables.Tests.{clash, fails}
use Rattle.vr_model.specs.tables.WellFormed.{IsWellFormed, pair_nodes as nodes_of_pair}
use Rattle.vr_model.proofs.tables.Members.{of_filter}
use Rattle.vr_rules.specs.declared.items.Item.TheVariants.{PickupAndDelivery}
use Rattle.vr_rules.specs.declared.items.Candidate.{Candidate}
use Rattle.vr_rules.specs.Placing.{AreCandidates, IsCandidate, IsItem}
use Rattle.vr_model.proofs.tables.Ranges.{below-more}
use Rattle.vr_rules.proofs.ItemLemmas.{IsItem-visit}
use Rattle.vr_model.proofs.tables.Tests.{apart}
use Rattle.vr_model.proofs.routes.Lists.{is_distinct-right}
use Rattle.vr_rules.proofs.PlacingLemmas.{is_distinct-apart}
use Rattle.vr_first_savings.specs.Joins.{AreApart}
use Rattle.vr_first_savings.specs.Singles.{nodes_of_each, route_begun}
use Rattle.vr_first_savings.proofs.SingleLemmas.{singles-fold, AreApart-begun}
use Rattle.vr_first_savings.proofs.ApartLemmas.{AreApart-none, AreApart-each, AreApart-parts, holds-append}

-- ---- the visits are distinct

above : (p : ℕ → Bool) (a n x : ℕ) → x < a → holds (filter p (range_with_len a n)) x ≡ false
above p a zero x low = refl
above p a (suc n) x low = by (p a) (above p (a + 1) n x (omega (arith, low)))
  where
    by : (b : Bool) → holds (filter p (range_with_len (a + 1) n)) x ≡ false
        → holds (cond b (a ∷ filter p (range_with_len (a + 1) n)) (filter p (range_with_len (a + 1) n))) x ≡ false
    by true rest = ap₂ (λ a b. a || b) (apart x a (λ same. omega (arith, same, low))) rest
    by false rest = rest

distinct-range : (p : ℕ → Bool) (a n : ℕ) → is_distinct (filter p (range_with_len a n)) ≡ true
distinct-range p a zero = refl
distinct-range p a (suc n) = by (p a) (distinct-range p (a + 1) n)
  where
    by : (b : Bool) → is_distinct (filter p (range_with_len (a + 1) n)) ≡ true
        → is_distinct (cond b (a ∷ filter p (range_with_len (a + 1) n)) (filter p (range_with_len (a + 1) n))) ≡ true
    by true rest = ap₂ (λ b c. not b && c) (above p (a + 1) n a (omega arith)) rest
    by false rest = rest

pub distinct-visits : (model : Model) → is_distinct (visits model) ≡ true
distinct-visits model = distinct-range (is_visit model) 0 model.nodes

-- ---- a node is in one pair at most

abbrev has : ℕ → Pair → Bool
has node pair = (pair.pickup == node) || (pair.delivery == node)

swap : (x y : ℕ) → (x == y) ≡ true → (y == x) ≡ true
swap x y e = eq-eqb y x (sym (eqb-true x y e))

has-holds : (pair : Pair) (node : ℕ) → has node pair ≡ true → holds (nodes_of_pair pair) node ≡ true
has-holds pair node h = by (pair.pickup == node) refl h
  where
    second : (a b : Bool) → b ≡ true → (a || (b || false)) ≡ true
    second true b e = refl
    second false true e = refl
    second false false e = e

    by : (b : Bool) → (pair.pickup == node) ≡ b → (b || (pair.delivery == node)) ≡ true → holds (nodes_of_pair pair) node ≡ true
    by true e h = ap (λ b. b || ((node == pair.delivery) || false)) (swap pair.pickup node e)
    by false e h = second (node == pair.pickup) (node == pair.delivery) (swap pair.delivery node h)

holds-has : (pair : Pair) (node : ℕ) → holds (nodes_of_pair pair) node ≡ true → has node pair ≡ true
holds-has pair node h = by (node == pair.pickup) refl h
  where
    last : (b : Bool) → (b || false) ≡ true → b ≡ true
    last true e = refl
    last false e = e

    second : (a b : Bool) → b ≡ true → (a || b) ≡ true
    second true b e = refl
    second false b e = e

    by : (b : Bool) → (node == pair.pickup) ≡ b → (b || ((node == pair.delivery) || false)) ≡ true → ((pair.pickup == node) || (pair.delivery == node)) ≡ true
    by true e h = ap (λ b. b || (pair.delivery == node)) (swap node pair.pickup e)
    by false e h = second (pair.pickup == node) (pair.delivery == node) (swap node pair.delivery (last (node == pair.delivery) h))

-- a pair that is found is one of the pairs
found-in : (pairs : List Pair) (n : ℕ) (pair : Pair) → find (has n) pairs ≡ Some pair
    → (x : ℕ) → holds (nodes_of_pair pair) x ≡ true → holds (each pairs nodes_of_pair) x ≡ true
found-in [] n pair e x h = absurd (cc)
found-in (p ∷ ps) n pair e x h = holds-append (nodes_of_pair p) (each ps nodes_of_pair) x ∙ by (has n p) e (λ later. found-in ps n pair later x h)
  where
    some : (p q : Pair) → Some p ≡ Some q → p ≡ q
    some p q e = cc

    second : (a b : Bool) → b ≡ true → (a || b) ≡ true
    second true b e = refl
    second false b e = e

    by : (b : Bool) → cond b (Some p) (find (has n) ps) ≡ Some pair → (find (has n) ps ≡ Some pair → holds (each ps nodes_of_pair) x ≡ true)
        → (holds (nodes_of_pair p) x || holds (each ps nodes_of_pair) x) ≡ true
    by true e rest = ap (λ b. b || holds (each ps nodes_of_pair) x) (subst (λ q. holds (nodes_of_pair q) x ≡ true) (sym (some p pair e)) h)
    by false e rest = second (holds (nodes_of_pair p) x) (holds (each ps nodes_of_pair) x) (rest e)

-- each node of a pair that is found finds it
same-pair : (pairs : List Pair) (n : ℕ) (pair : Pair) → find (has n) pairs ≡ Some pair → is_distinct (each pairs nodes_of_pair) ≡ true
    → (x : ℕ) → holds (nodes_of_pair pair) x ≡ true → find (has x) pairs ≡ Some pair
same-pair [] n pair e d x h = absurd (cc)
same-pair (p ∷ ps) n pair e d x h = by (has n p) e (λ later. same-pair ps n pair later (is_distinct-right (nodes_of_pair p) (each ps nodes_of_pair) d) x h)
  where
    some : (p q : Pair) → Some p ≡ Some q → p ≡ q
    some p q e = cc

    by : (b : Bool) → cond b (Some p) (find (has n) ps) ≡ Some pair
        → (find (has n) ps ≡ Some pair → find (has x) ps ≡ Some pair) → cond (has x p) (Some p) (find (has x) ps) ≡ Some pair
    by true e later =
        let same : p ≡ pair = some p pair e in
        ap (λ b. cond b (Some p) (find (has x) ps)) (holds-has p x (subst (λ q. holds (nodes_of_pair q) x ≡ true) (sym same) h)) ∙ ap Some same
    by false e later =
        let absent : has x p ≡ false = fails (has x p) (λ there. clash (holds (each ps nodes_of_pair) x) (found-in ps n pair e x h)
        (is_distinct-apart (nodes_of_pair p) (each ps nodes_of_pair) d x (has-holds p x there))) in
        ap (λ b. cond b (Some p) (find (has x) ps)) absent ∙ later e

-- ---- the items

-- the number of the item that a node is in
owner : Option Pair → ℕ → ℕ
owner None node = node
owner (Some pair) node = pair.pickup

one-of : (x n : ℕ) → holds (n ∷ []) x ≡ true → x ≡ n
one-of x n h = eqb-true x n (last (x == n) h)
  where
    last : (b : Bool) → (b || false) ≡ true → b ≡ true
    last true e = refl
    last false e = e

owned : (model : Model) → IsWellFormed model → (n x : ℕ) → holds (concat (items_at (pair_of model n) n)) x ≡ true → owner (pair_of model x) x ≡ n
unfolding owner
owned model well_formed n x h = by (pair_of model n) refl h
  where
    one : (pair : Pair) → pair_of model n ≡ Some pair → (b : Bool) → (pair.pickup == n) ≡ b
        → holds (concat (cond b ((pair.pickup ∷ pair.delivery ∷ []) ∷ []) [])) x ≡ true → owner (pair_of model x) x ≡ n
    one pair e true f h = ap (λ o. owner o x) (same-pair model.pairs n pair e well_formed.no_node_in_pairs_twice x h) ∙ eqb-true pair.pickup n f
    one pair e false f h = absurd (clash false h refl)

    by : (o : Option Pair) → pair_of model n ≡ o → holds (concat (items_at o n)) x ≡ true → owner (pair_of model x) x ≡ n
    by None e h = let same : x ≡ n = one-of x n h in subst (λ x. owner (pair_of model x) x ≡ n) (sym same) (ap (λ o. owner o n) e)
    by (Some pair) e h = one pair e (pair.pickup == n) refl h

AreApart-one : (model : Model) (route : List ℕ) → 0 < length route
    → list_all (is_visit model) route ≡ true → is_distinct route ≡ true → AreApart model (route ∷ [])
AreApart-one model route some visits distinct = record {
  some = All-cons (λ route. 0 < length route) route [] some (λ k d low. absurd (omega (arith, low)));
  visits = ap (list_all (is_visit model)) (append-nil route) ∙ visits;
  distinct = ap is_distinct (append-nil route) ∙ distinct;
}

item-apart : (model : Model) → IsWellFormed model → (n : ℕ) → is_visit model n ≡ true → AreApart model (items_at (pair_of model n) n)
item-apart model well_formed n visit = by (pair_of model n) refl
  where
    one : (pair : Pair) → pair_of model n ≡ Some pair → (b : Bool) → (pair.pickup == n) ≡ b
        → AreApart model (cond b ((pair.pickup ∷ pair.delivery ∷ []) ∷ []) [])
    one pair e true f =
        let item : IsItem model (PickupAndDelivery pair.pickup pair.delivery) =
        IsItem-visit model well_formed n visit (Some (PickupAndDelivery pair.pickup pair.delivery))
        (sym (ap (λ o. items_at o n) e ∙ ap (λ b. cond b ((pair.pickup ∷ pair.delivery ∷ []) ∷ []) []) f)) in
        AreApart-one model (pair.pickup ∷ pair.delivery ∷ []) (omega arith) item.visits item.distinct
    one pair e false f = AreApart-none model

    by : (o : Option Pair) → pair_of model n ≡ o → AreApart model (items_at o n)
    by None e = AreApart-one model (n ∷ []) (omega arith) (and_both (is_visit model n) true visit refl) refl
    by (Some pair) e = one pair e (pair.pickup == n) refl

AreApart-items : (model : Model) → IsWellFormed model → AreApart model (items model)
AreApart-items model well_formed =
    AreApart-each model (λ n. items_at (pair_of model n) n) (visits model) (distinct-visits model)
    (λ n there. item-apart model well_formed n (of_filter (is_visit model) (below model.nodes) n there).1)
    (λ n m x h g. sym (owned model well_formed n x h) ∙ owned model well_formed m x g)

pub AreApart-items_by_class : (model : Model) → IsWellFormed model → AreApart model (items_by_class model)
AreApart-items_by_class model well_formed =
    AreApart-parts model (λ c item. class model item == c) (from_to 0 3) (items model) refl (AreApart-items model well_formed)
    (λ n m item h g. sym (eqb-true (class model item) n h) ∙ eqb-true (class model item) m g)

-- ---- candidates by class

-- the candidates of each class in turn
abbrev pub classes : List Candidate → List Candidate
classes candidates = each (below 3) (λ class. filter (λ candidate. candidate.class == class) candidates)

filtered : {A B : Type 0} (f : A → B) (p : A → Bool) (q : B → Bool) (xs : List A) → All (λ x. p x ≡ q (f x)) xs → map f (filter p xs) ≡ filter q (map f xs)
filtered f p q [] h = refl
filtered f p q (x ∷ xs) h = by (p x)
    ∙ ap₂ (λ b ys. cond b (f x ∷ ys) ys) (h 0 x (omega arith)) (filtered f p q xs (λ k d low. h (suc k) d (omega (arith, low))))
  where
    by : (b : Bool) → map f (cond b (x ∷ filter p xs) (filter p xs)) ≡ cond b (f x ∷ map f (filter p xs)) (map f (filter p xs))
    by true = refl
    by false = refl

pub classes-are : (model : Model) (candidates : List Candidate) → AreCandidates model candidates → map nodes_of_each (classes candidates) ≡ items_by_class model
classes-are model candidates are =
    let of = λ (c : ℕ). filter (λ candidate. candidate.class == c) candidates in
    let part = λ (c : ℕ). filtered nodes_of_each (λ candidate. candidate.class == c)
    (λ item. class model item == c) candidates (λ k d low. ap (λ n. n == c) (are.each k d low).class)
    ∙ ap (filter (λ item. class model item == c)) are.all in
    map-append nodes_of_each (of 0) (of 1 ++ (of 2 ++ []))
    ∙ ap₂ (λ xs ys. xs ++ ys) (part 0)
    (map-append nodes_of_each (of 1) (of 2 ++ []) ∙ ap₂ (λ xs ys. xs ++ ys) (part 1) (map-append nodes_of_each (of 2) [] ∙ ap (λ xs. xs ++ []) (part 2)))

pub classes-more : (candidates : List Candidate) (c : ℕ)
    → each (below (c + 1)) (λ class. filter (λ candidate. candidate.class == class) candidates)
    ≡ each (below c) (λ class. filter (λ candidate. candidate.class == class) candidates) ++ filter (λ candidate. candidate.class == c) candidates
classes-more candidates c =
    let of = λ (class : ℕ). filter (λ candidate. candidate.class == class) candidates in
    ap (λ cs. each cs of) (below-more c) ∙ flat_map-append of (below c) (c ∷ []) ∙ ap (λ ys. each (below c) of ++ ys) (append-nil (of c))

pub classes-candidates : (model : Model) (candidates : List Candidate) → All (IsCandidate model) candidates → All (IsCandidate model) (classes candidates)
classes-candidates model candidates are =
    let of = λ (c : ℕ). filter (λ candidate. candidate.class == c) candidates in
    let part = λ (c : ℕ). All-filter (λ candidate. candidate.class == c) (IsCandidate model) candidates are in
    All-append (IsCandidate model) (of 0) (of 1 ++ (of 2 ++ [])) (part 0)
    (All-append (IsCandidate model) (of 1) (of 2 ++ []) (part 1)
    (All-append (IsCandidate model) (of 2) [] (part 2) (λ k d low. absurd (omega (arith, low)))))

-- the candidates by class that may begin become the single routes
pub begun-singles : (model : Model) (ordered : List Candidate) → map nodes_of_each ordered ≡ items_by_class model
    → fold (route_begun model) [] (map nodes_of_each ordered) ≡ single_routes model [] (items_by_class model)
begun-singles model ordered e = ap (fold (route_begun model) []) e ∙ singles-fold model [] (items_by_class model)

pub AreApart-singles : (model : Model) → IsWellFormed model → AreApart model (single_routes model [] (items_by_class model))
AreApart-singles model well_formed = subst (AreApart model) (singles-fold model [] (items_by_class model))
    (AreApart-begun model (items_by_class model) [] (AreApart-items_by_class model well_formed))
