-- Places of nodes in a list, and what they tell of pairs.
use Rattle.std.proofs.Common.{◌≡◌, ◌∙◌, ◌<◌, ◌≤◌, ◌+◌, ◌++◌, ℕ, suc, List, [], ◌∷◌, Bool, true, false, cond, not, refl, ap, sym, arith, length, take, get_or}
use Rattle.std.specs.Prelude.{map, filter, ◌&&◌, ◌||◌, ◌==◌, nat_lt}
use Rattle.std.specs.List.{list_all}
use Rattle.std.proofs.lemmas.Bool.{eqb-true}
use Rattle.std.proofs.lemmas.Bool.Decides.{nat_tests}
use Rattle.std.proofs.lemmas.List.{map-append, append-nil}
use Rattle.std.proofs.lemmas.List.Sums.{prefix_len-le-length}
use Rattle.std.proofs.lemmas.List.Folds.{list_all-map}
use Rattle.std.proofs.lemmas.List.Elements.{filter_more}
use Rattle.vr_model.specs.routes.Routes.{holds, is_distinct}
use Rattle.vr_model.specs.moves.Moves.{comes_before}
use Rattle.vr_model.specs.routes.Rules.{place_of, serves_pair, policy_allows, pairs_in, keeps_policy}
use Rattle.vr_model.specs.tables.Tables.{vehicle_at}
use Rattle.vr_model.specs.deciding.Testing.{and_left, and_right}
use Rattle.vr_model.specs.declared.records.Model.{Model}
use Rattle.vr_model.specs.declared.records.Pair.{Pair}
use Rattle.vr_model.specs.declared.records.Policy.{Policy}
use Rattle.vr_model.specs.declared.records.Policy.TheVariants.{Any, Lifo, Fifo}
use Rattle.vr_lists.specs.declared.pairs.Served.{Served}
use Rattle.vr_lists.specs.Pairs.{served_at, served_in, places_allow, allows_beside}
use Rattle.vr_model.proofs.tables.Tests.{eq_turned, fails_not, list_all-true}

pub place_of-within : (list : List ℕ) (x : ℕ) → place_of list x ≤ length list
place_of-within list x = prefix_len-le-length (λ y. not (y == x)) list

place_cons : (b h : Bool) (p n : ℕ) → h ≡ nat_lt p n → (b || h) ≡ nat_lt (cond (not b) (1 + p) 0) (suc n)
place_cons true h p n e = grind (arith, nat_tests)
place_cons false h p n e = grind (arith, nat_tests)

-- a node is in the list where its place is below the length
pub holds-place : (list : List ℕ) (x : ℕ) → holds list x ≡ nat_lt (place_of list x) (length list)
holds-place [] x = grind (arith, nat_tests)
holds-place (z ∷ zs) x = ap (λ b. b || holds zs x) (eq_turned x z) ∙ place_cons (z == x) (holds zs x) (place_of zs x) (length zs) (holds-place zs x)

before_cons : (a b h c : Bool) (p q n : ℕ) → h ≡ nat_lt q n → c ≡ (nat_lt p q && nat_lt q n) → (b ≡ true → h ≡ false)
    → cond a h c ≡ (nat_lt (cond (not a) (1 + p) 0) (cond (not b) (1 + q) 0) && nat_lt (cond (not b) (1 + q) 0) (suc n))
before_cons true true h c p q n eh ec absent = let none : h ≡ false = absent refl in grind (arith, nat_tests)
before_cons true false h c p q n eh ec absent = grind (arith, nat_tests)
before_cons false true h c p q n eh ec absent = let none : h ≡ false = absent refl in grind (arith, nat_tests)
before_cons false false h c p q n eh ec absent = grind (arith, nat_tests)

-- among distinct nodes, x stands before y where its place does and y is there
pub comes_before-place : (list : List ℕ) (x y : ℕ) → is_distinct list ≡ true
    → comes_before list x y ≡ (nat_lt (place_of list x) (place_of list y) && nat_lt (place_of list y) (length list))
comes_before-place [] x y d = grind (arith, nat_tests)
comes_before-place (z ∷ zs) x y d =
    before_cons (z == x) (z == y) (holds zs y) (comes_before zs x y) (place_of zs x) (place_of zs y) (length zs)
    (holds-place zs y) (comes_before-place zs x y (and_right (not (holds zs z)) (is_distinct zs) d))
    (λ same. ap (holds zs) (sym (eqb-true z y same)) ∙ fails_not (holds zs z) (and_left (not (holds zs z)) (is_distinct zs) d))

serve_test : (p d n : ℕ) → p ≤ n → d ≤ n → (not (nat_lt p n || nat_lt d n) || (nat_lt p d && nat_lt d n)) ≡ cond (nat_lt p d) (nat_lt d n) (d == n)
serve_test p d n h g = grind (arith, nat_tests)

-- how a pair is served, by the places of its nodes
pub serves_pair-places : (list : List ℕ) (pair : Pair) → is_distinct list ≡ true
    → serves_pair list pair ≡ cond (nat_lt (place_of list pair.pickup) (place_of list pair.delivery))
    (nat_lt (place_of list pair.delivery) (length list)) (place_of list pair.delivery == length list)
serves_pair-places list pair d =
    (λ t. not (holds-place list pair.pickup t || holds-place list pair.delivery t) || comes_before-place list pair.pickup pair.delivery d t)
    ∙ serve_test (place_of list pair.pickup) (place_of list pair.delivery) (length list) (place_of-within list pair.pickup) (place_of-within list pair.delivery)

-- ---- policies

places_allow-is : (policy : Policy) (list : List ℕ) (x y : Pair) → places_allow policy (served_at list x) (served_at list y) ≡ policy_allows policy list x y
places_allow-is Any list x y = refl
places_allow-is Lifo list x y = refl
places_allow-is Fifo list x y = refl

-- the policy of a vehicle, by the places of the pairs of its list
pub keeps_policy-places : (model : Model) (v : ℕ) (list : List ℕ)
    → list_all (allows_beside (vehicle_at model v).policy (served_in list model.pairs)) (served_in list model.pairs) ≡ keeps_policy model v list
keeps_policy-places model v list =
    let policy : Policy = (vehicle_at model v).policy in
    list_all-map (allows_beside policy (served_in list model.pairs)) (served_at list) (pairs_in model list)
    ∙ ap (λ f. list_all f (pairs_in model list)) (λ t x. beside policy x t)
  where
    beside : (policy : Policy) (x : Pair)
        → allows_beside policy (served_in list model.pairs) (served_at list x) ≡ list_all (λ y. policy_allows policy list x y) (pairs_in model list)
    beside policy x =
        list_all-map (places_allow policy (served_at list x)) (served_at list) (pairs_in model list)
        ∙ ap (λ f. list_all f (pairs_in model list)) (λ t y. places_allow-is policy list x y t)

chosen-map : (b : Bool) (f : Pair → Served) (x : Pair) → map f (cond b (x ∷ []) []) ≡ cond b (f x ∷ []) []
chosen-map true f x = refl
chosen-map false f x = refl

-- one pair more
pub served_in-more : (list : List ℕ) (pairs : List Pair) (k : ℕ) (d : Pair) → k < length pairs
    → served_in list (take (k + 1) pairs)
    ≡ served_in list (take k pairs) ++ cond (holds list (get_or pairs k d).pickup) (served_at list (get_or pairs k d) ∷ []) []
served_in-more list pairs k d low =
    let there = λ (pair : Pair). holds list pair.pickup in
    ap (map (served_at list)) (filter_more there pairs k d low)
    ∙ map-append (served_at list) (filter there (take k pairs)) (cond (there (get_or pairs k d)) (get_or pairs k d ∷ []) [])
    ∙ ap (λ xs. served_in list (take k pairs) ++ xs) (chosen-map (there (get_or pairs k d)) (served_at list) (get_or pairs k d))

-- the same at the values that code has
module _ (list : List ℕ) (pair : Pair) (pickup delivery : ℕ) (at_pickup : pickup ≡ place_of list pair.pickup)
    (at_delivery : delivery ≡ place_of list pair.delivery) where
  served_by : is_distinct list ≡ true → cond (nat_lt pickup delivery) (nat_lt delivery (length list)) (delivery == length list) ≡ serves_pair list pair
  served_by d = (λ t. cond (nat_lt (at_pickup t) (at_delivery t)) (nat_lt (at_delivery t) (length list)) (at_delivery t == length list))
      ∙ sym (serves_pair-places list pair d)

  pub serves-in_order : is_distinct list ≡ true → pickup < delivery → nat_lt delivery (length list) ≡ serves_pair list pair
  serves-in_order d h =
      let e : nat_lt pickup delivery ≡ true = grind (arith, nat_tests) in
      sym (ap (λ b. cond b (nat_lt delivery (length list)) (delivery == length list)) e) ∙ served_by d

  pub serves-not_in_order : is_distinct list ≡ true → delivery ≤ pickup → (delivery == length list) ≡ serves_pair list pair
  serves-not_in_order d h =
      let e : nat_lt pickup delivery ≡ false = grind (arith, nat_tests) in
      sym (ap (λ b. cond b (nat_lt delivery (length list)) (delivery == length list)) e) ∙ served_by d

  module _ (pairs : List Pair) (k : ℕ) (low : k < length pairs) (is : (d : Pair) → get_or pairs k d ≡ pair) where
    more : served_in list (take (k + 1) pairs) ≡ served_in list (take k pairs) ++ cond (holds list pair.pickup) (served_at list pair ∷ []) []
    more = served_in-more list pairs k pair low ∙ ap (λ p. served_in list (take k pairs) ++ cond (holds list p.pickup) (served_at list p ∷ []) []) (is pair)

    pub served_in-there : pickup < length list
        → served_in list (take k pairs) ++ record { pickup = pickup; delivery = delivery } ∷ [] ≡ served_in list (take (k + 1) pairs)
    served_in-there h =
        let there : holds list pair.pickup ≡ true = holds-place list pair.pickup ∙ ap (λ p. nat_lt p (length list)) (sym at_pickup)
        ∙ (let e : nat_lt pickup (length list) ≡ true = grind (arith, nat_tests) in e) in
        ap (λ s. served_in list (take k pairs) ++ s ∷ []) (λ t. record { pickup = at_pickup t; delivery = at_delivery t })
        ∙ sym (more ∙ ap (λ b. served_in list (take k pairs) ++ cond b (served_at list pair ∷ []) []) there)

    pub served_in-absent : length list ≤ pickup → served_in list (take k pairs) ≡ served_in list (take (k + 1) pairs)
    served_in-absent h =
        let absent : holds list pair.pickup ≡ false = holds-place list pair.pickup ∙ ap (λ p. nat_lt p (length list)) (sym at_pickup)
        ∙ (let e : nat_lt pickup (length list) ≡ false = grind (arith, nat_tests) in e) in
        sym (more ∙ ap (λ b. served_in list (take k pairs) ++ cond b (served_at list pair ∷ []) []) absent ∙ append-nil (served_in list (take k pairs)))

-- where the policy asks nothing, each two pairs keep it
pub keeps-any : (model : Model) (v : ℕ) (list : List ℕ) → (vehicle_at model v).policy ≡ Any → keeps_policy model v list ≡ true
keeps-any model v list e =
    ap (λ policy. list_all (λ x. list_all (λ y. policy_allows policy list x y) (pairs_in model list)) (pairs_in model list)) e
    ∙ list_all-true (λ x. list_all (λ y. policy_allows Any list x y) (pairs_in model list))
    (λ x. list_all-true (λ y. policy_allows Any list x y) (λ y. refl) (pairs_in model list)) (pairs_in model list)
