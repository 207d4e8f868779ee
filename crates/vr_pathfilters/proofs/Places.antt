-- How many of the first nodes of a list are pickups or deliveries, told by the places of the pairs.
use Rattle.std.proofs.Common.{◌≡◌, ◌∙◌, ℕ, zero, suc, ◌+◌, ◌<◌, ◌≤◌, List, [], ◌∷◌, Bool, true, false, cond, not, length, take, drop, refl, sym, ap, ap₂, subst}
use Rattle.std.proofs.Common.{inl, inr, arith}
use Rattle.std.specs.Prelude.{IsTrue, nat_lt, ◌==◌, ◌||◌, count_by, map, slice_index}
use Rattle.std.specs.List.{list_any}
use Rattle.std.proofs.lemmas.Bool.Decides.{nat_tests}
use Rattle.std.proofs.lemmas.List.{take-append-drop}
use Rattle.std.proofs.lemmas.List.Sums.{position_or_len_is}
use Rattle.vr_model.specs.deciding.Testing.{and_left, and_right, or_left, or_right, eq_of_test, test_of_eq}
use Rattle.vr_model.specs.routes.Routes.{holds, is_distinct}
use Rattle.vr_model.specs.routes.Rules.{place_of}
use Rattle.vr_model.proofs.moves.Times.{at_least_two, times_of_distinct}
use Rattle.vr_model.proofs.routes.Lists.{is_distinct-left}
use Rattle.vr_model.proofs.tables.Members.{In}
use Rattle.vr_model.proofs.tables.Tests.{apart, clash, eq_turned, fails_not}
use Rattle.vr_pathfilters.proofs.Counting.{count_more, once}

-- ---- counting pairs and counting nodes

held_by : {A : Type 0} (f : A → ℕ) (x : ℕ) (all : List A) → list_any (λ z. f z == x) all ≡ holds (map f all) x
held_by f x [] = refl
held_by f x (z ∷ zs) = ap₂ (λ a b. a || b) (eq_turned (f z) x) (held_by f x zs)

pub held_of : {A : Type 0} (f : A → ℕ) (all : List A) (z : A) → In all z → IsTrue (holds (map f all) (f z))
held_of f [] z among = absurd among
held_of f (y ∷ ys) z (inl e) = or_left (f z == f y) (holds (map f ys) (f z)) (test_of_eq (f z) (f y) (ap f e))
held_of f (y ∷ ys) z (inr more) = or_right (f z == f y) (holds (map f ys) (f z)) (held_of f ys z more)

-- among some with a number of their own each, those of one number are one
pub is_same_one : {A : Type 0} (f : A → ℕ) (all : List A) → IsTrue (is_distinct (map f all)) → (y z : A) → In all y → In all z → f y ≡ f z → y ≡ z
is_same_one f [] distinct y z among there e = absurd among
is_same_one f (x ∷ xs) distinct y z (inl a) (inl b) e = a ∙ sym b
is_same_one f (x ∷ xs) distinct y z (inl a) (inr b) e =
    absurd (clash (holds (map f xs) (f x)) (subst (λ n. IsTrue (holds (map f xs) n)) (sym e ∙ ap f a) (held_of f xs z b))
    (fails_not (holds (map f xs) (f x)) (and_left (not (holds (map f xs) (f x))) (is_distinct (map f xs)) distinct)))
is_same_one f (x ∷ xs) distinct y z (inr a) (inl b) e =
    absurd (clash (holds (map f xs) (f x)) (subst (λ n. IsTrue (holds (map f xs) n)) (e ∙ ap f b) (held_of f xs y a))
    (fails_not (holds (map f xs) (f x)) (and_left (not (holds (map f xs) (f x))) (is_distinct (map f xs)) distinct)))
is_same_one f (x ∷ xs) distinct y z (inr a) (inr b) e = is_same_one f xs (and_right (not (holds (map f xs) (f x))) (is_distinct (map f xs)) distinct) y z a b e

none_counted : {A : Type 0} (all : List A) → count_by (λ z. false) all ≡ 0
none_counted [] = refl
none_counted (z ∷ zs) = let e = count_more (λ z. false) z zs in let r = none_counted zs in omega (arith, e, r)

-- those of one number are counted once
one_counted : {A : Type 0} (f : A → ℕ) (x : ℕ) (all : List A) → IsTrue (is_distinct (map f all))
    → count_by (λ z. f z == x) all ≡ once (list_any (λ z. f z == x) all)
one_counted f x [] distinct = refl
one_counted {A} f x (z ∷ zs) distinct = count_more (λ z. f z == x) z zs
    ∙ by (f z == x) refl (one_counted f x zs (and_right (not (holds (map f zs) (f z))) (is_distinct (map f zs)) distinct))
  where
    by : (b : Bool) → (f z == x) ≡ b → count_by (λ z. f z == x) zs ≡ once (list_any (λ z. f z == x) zs)
        → once b + count_by (λ z. f z == x) zs ≡ once (b || list_any (λ z. f z == x) zs)
    by true e later =
        let absent : list_any (λ z. f z == x) zs ≡ false = held_by f x zs
        ∙ (ap (holds (map f zs)) (sym (eq_of_test (f z) x e))
        ∙ fails_not (holds (map f zs) (f z)) (and_left (not (holds (map f zs) (f z))) (is_distinct (map f zs)) distinct)) in
        ap (λ n. 1 + n) (later ∙ ap once absent)
    by false e later = let r = later in omega (arith, r)

step_either : (a b : Bool) (m n k : ℕ) → (a ≡ true → b ≡ false) → m + n ≡ k → (once a + m) + (once b + n) ≡ once (a || b) + k
step_either true true m n k apart e = absurd (clash true refl (apart refl))
step_either true false m n k apart e = omega (arith, e)
step_either false true m n k apart e = omega (arith, e)
step_either false false m n k apart e = omega (arith, e)

-- of two tests that do not both pass
count_either : {A : Type 0} (f g : A → Bool) (all : List A) → ((z : A) → f z ≡ true → g z ≡ false)
    → count_by f all + count_by g all ≡ count_by (λ z. f z || g z) all
count_either f g [] apart = refl
count_either f g (z ∷ zs) apart =
    ap₂ (λ m n. m + n) (count_more f z zs) (count_more g z zs)
    ∙ (step_either (f z) (g z) (count_by f zs) (count_by g zs) (count_by (λ z. f z || g z) zs) (apart z) (count_either f g zs apart)
    ∙ sym (count_more (λ z. f z || g z) z zs))

-- how many of distinct nodes are numbers of some is how many of these have their number there
pub counted_there : {A : Type 0} (f : A → ℕ) (all : List A) → IsTrue (is_distinct (map f all)) → (nodes : List ℕ) → IsTrue (is_distinct nodes)
    → count_by (λ node. list_any (λ z. f z == node) all) nodes ≡ count_by (λ z. holds nodes (f z)) all
counted_there f all distinct [] apart = sym (none_counted all)
counted_there f all distinct (x ∷ xs) apart =
    count_more (λ node. list_any (λ z. f z == node) all) x xs
    ∙ (ap₂ (λ m n. m + n) (sym (one_counted f x all distinct)) (counted_there f all distinct xs (and_right (not (holds xs x)) (is_distinct xs) apart))
    ∙ count_either (λ z. f z == x) (λ z. holds xs (f z)) all
    (λ z same. ap (holds xs) (eq_of_test (f z) x same) ∙ fails_not (holds xs x) (and_left (not (holds xs x)) (is_distinct xs) apart)))

-- ---- the first nodes of a list

place_step : (b h : Bool) (p k : ℕ) → h ≡ nat_lt p k → (b || h) ≡ nat_lt (cond (not b) (1 + p) 0) (suc k)
place_step true h p k e = Prim.grind (arith, nat_tests)
place_step false h p k e = Prim.grind (arith, nat_tests)

-- a node is among the first ones where its place is
pub holds_first : (list : List ℕ) (x k : ℕ) → k ≤ length list → holds (take k list) x ≡ nat_lt (place_of list x) k
holds_first list x zero low = Prim.grind (arith, nat_tests)
holds_first [] x (suc k) low = absurd (omega (arith, low))
holds_first (z ∷ zs) x (suc k) low =
    ap (λ b. b || holds (take k zs) x) (eq_turned x z)
    ∙ place_step (z == x) (holds (take k zs) x) (place_of zs x) k (holds_first zs x k (omega (arith, low)))

pub first_distinct : (list : List ℕ) (k : ℕ) → IsTrue (is_distinct list) → IsTrue (is_distinct (take k list))
first_distinct list k distinct = is_distinct-left (take k list) (drop k list) (ap is_distinct (take-append-drop k list) ∙ distinct)

-- how many of the first nodes are numbers of some
pub counted_first : {A : Type 0} (f : A → ℕ) (all : List A) → IsTrue (is_distinct (map f all))
    → (list : List ℕ) → IsTrue (is_distinct list) → (k : ℕ) → k ≤ length list
    → count_by (λ node. list_any (λ z. f z == node) all) (take k list) ≡ count_by (λ z. nat_lt (place_of list (f z)) k) all
counted_first f all distinct list apart k low =
    counted_there f all distinct (take k list) (first_distinct list k apart)
    ∙ ap (λ test. count_by test all) (λ t z. holds_first list (f z) k low t)

step_found : (list : List ℕ) (z x p : ℕ) (b : Bool) → (z == x) ≡ b → (p < length list → slice_index list p ≡ x)
    → cond (not b) (1 + p) 0 < suc (length list) → slice_index (z ∷ list) (cond (not b) (1 + p) 0) ≡ x
step_found list z x p true e later low = eq_of_test z x e
step_found list z x p false e later low =
    let next : 1 + p ≡ suc p = omega arith in
    subst (λ k. slice_index (z ∷ list) k ≡ x) (sym next) (later (omega (arith, low)))

-- the node at the place of a node of a list
pub place_found : (list : List ℕ) (x : ℕ) → place_of list x < length list → slice_index list (place_of list x) ≡ x
place_found [] x low = absurd (omega (arith, low))
place_found (z ∷ zs) x low = step_found zs z x (place_of zs x) (z == x) refl (place_found zs x) low

-- among distinct nodes, the place of a node is where it stands
pub place_is : (xs : List ℕ) (x k : ℕ) → IsTrue (is_distinct xs) → k < length xs → slice_index xs k ≡ x → k ≡ place_of xs x
place_is xs x k distinct low at = sym (position_or_len_is (λ y. y == x) xs k 0 (omega (arith, low))
    (λ j before. apart (slice_index xs j) x
    (λ same. let two = at_least_two x xs j k before low same at in let few = times_of_distinct xs distinct x in omega (arith, two, few)))
    (λ _. test_of_eq (slice_index xs k) x at))
