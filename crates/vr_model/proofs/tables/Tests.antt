-- Tests: what passes, what fails, what a filter keeps.
use Rattle.std.proofs.Common.{◌≡◌, ◌∙◌, ℕ, zero, suc, ◌<◌, ◌≤◌, List, [], ◌∷◌, Bool, true, false, cond, not, refl, ap, sym, arith}
use Rattle.std.specs.Prelude.{IsTrue, nat_lt, nat_le, map, filter, ◌&&◌, ◌||◌, ◌==◌, All}
use Rattle.std.specs.List.{list_all}
use Rattle.std.proofs.lemmas.Bool.{eqb-true}
use Rattle.vr_model.specs.deciding.Testing.{and_left, and_right, test_of_eq}

-- ---- tests

-- a test does not both pass and fail
pub clash : (b : Bool) → b ≡ true → b ≡ false → ⊥
clash b t f = Prim.cc

-- a test that cannot pass fails
pub fails : (b : Bool) → (IsTrue b → ⊥) → b ≡ false
fails true h = absurd (h refl)
fails false h = refl

-- a test fails where its opposite passes
pub fails_not : (b : Bool) → IsTrue (not b) → b ≡ false
fails_not true h = absurd (clash false h refl)
fails_not false h = refl

-- two tests that pass where the other does are the same
pub same_tests : (a b : Bool) → (IsTrue a → IsTrue b) → (IsTrue b → IsTrue a) → a ≡ b
same_tests true b h g = sym (h refl)
same_tests false true h g = g refl
same_tests false false h g = refl

pub not-or : (a b : Bool) → not (a || b) ≡ (not a && not b)
not-or true b = refl
not-or false b = refl

-- where neither test passes, the left one does not
pub or-false_left : (a b : Bool) → (a || b) ≡ false → a ≡ false
or-false_left true b h = h
or-false_left false b h = refl

pub or-false_right : (a b : Bool) → (a || b) ≡ false → b ≡ false
or-false_right true b h = absurd (cc)
or-false_right false b h = h

-- two numbers that are not the same
pub apart : (x y : ℕ) → (x ≡ y → ⊥) → (x == y) ≡ false
apart x y h = by (x == y) refl
  where
    by : (b : Bool) → (x == y) ≡ b → (x == y) ≡ false
    by true e = absurd (h (eqb-true x y e))
    by false e = e

pub eq_turned : (x y : ℕ) → (x == y) ≡ (y == x)
eq_turned x y = same_tests (x == y) (y == x) (λ h. test_of_eq y x (sym (eqb-true x y h))) (λ h. test_of_eq x y (sym (eqb-true y x h)))

pub lt_of_test : (m n : ℕ) → IsTrue (nat_lt m n) → m < n
lt_of_test m n h = Prim.grind arith

pub nat_of_test : (m n : ℕ) → IsTrue (nat_le m n) → m ≤ n
nat_of_test m n h = Prim.grind arith

pub test_of_lt : (m n : ℕ) → m < n → IsTrue (nat_lt m n)
test_of_lt m n h = Prim.grind arith

-- what a test for emptiness says of a length
pub some_from_test : (n : ℕ) (empty : Bool) → empty ≡ false → empty ≡ (n == 0) → 0 < n
some_from_test zero true h e = absurd (cc)
some_from_test zero false h e = absurd (cc)
some_from_test (suc n) empty h e = omega arith

pub none_from_test : (n : ℕ) (empty : Bool) → empty ≡ true → empty ≡ (n == 0) → n ≡ 0
none_from_test n true h e = eqb-true n 0 (sym e)
none_from_test n false h e = absurd (cc)

pub cond-not : {A : Type 0} (b : Bool) (x y : A) → cond (not b) x y ≡ cond b y x
cond-not true x y = refl
cond-not false x y = refl

-- ---- tests of all entries

pub list_all-true : {A : Type 0} (p : A → Bool) → ((x : A) → p x ≡ true) → (xs : List A) → list_all p xs ≡ true
list_all-true p h [] = refl
list_all-true p h (x ∷ xs) = ap (λ b. b && list_all p xs) (h x) ∙ list_all-true p h xs

pub all-from_list_all : {A : Type 0} (p : A → Bool) (xs : List A) → list_all p xs ≡ true → All (λ x. p x ≡ true) xs
all-from_list_all p [] h k d low = absurd (omega (arith, low))
all-from_list_all p (x ∷ xs) h zero d low = and_left (p x) (list_all p xs) h
all-from_list_all p (x ∷ xs) h (suc k) d low = all-from_list_all p xs (and_right (p x) (list_all p xs) h) k d (omega (arith, low))

-- ---- filters

-- a test that passes at each entry keeps all
pub filter-true : {A : Type 0} (p : A → Bool) → ((x : A) → p x ≡ true) → (xs : List A) → filter p xs ≡ xs
filter-true p h [] = refl
filter-true p h (x ∷ xs) = ap (λ b. cond b (x ∷ filter p xs) (filter p xs)) (h x) ∙ ap (λ ys. x ∷ ys) (filter-true p h xs)

pub filter-map : {A B : Type 0} (p : B → Bool) (f : A → B) (xs : List A) → filter p (map f xs) ≡ map f (filter (λ x. p (f x)) xs)
filter-map p f [] = refl
filter-map p f (x ∷ xs) = ap (λ ys. cond (p (f x)) (f x ∷ ys) ys) (filter-map p f xs) ∙ image-cond f (p (f x)) x (filter (λ x. p (f x)) xs)
  where
    image-cond : {A B : Type 0} (f : A → B) (b : Bool) (x : A) (ys : List A) → cond b (f x ∷ map f ys) (map f ys) ≡ map f (cond b (x ∷ ys) ys)
    image-cond f true x ys = refl
    image-cond f false x ys = refl

-- a filter of a filter
pub filter-filter : {A : Type 0} (p q : A → Bool) (xs : List A) → filter p (filter q xs) ≡ filter (λ x. q x && p x) xs
filter-filter p q [] = refl
filter-filter p q (x ∷ xs) = step p (q x) x (filter q xs) (filter (λ x. q x && p x) xs) (filter-filter p q xs)
  where
    step : {A : Type 0} (p : A → Bool) (b : Bool) (x : A) (ys zs : List A) → filter p ys ≡ zs
        → filter p (cond b (x ∷ ys) ys) ≡ cond (b && p x) (x ∷ zs) zs
    step p true x ys zs e = ap (λ rest. cond (p x) (x ∷ rest) rest) e
    step p false x ys zs e = e

nil-not-cons : {A : Type 0} (x : A) (xs : List A) → x ∷ xs ≡ [] → ⊥
nil-not-cons x xs e = cc

-- where a filter leaves nothing, the test fails at each entry
pub none-filtered : {A : Type 0} (p : A → Bool) (xs : List A) → filter (λ x. not (p x)) xs ≡ [] → list_all p xs ≡ true
none-filtered p [] e = refl
none-filtered p (x ∷ xs) e = by p x xs (p x) refl e (none-filtered p xs)
  where
    by : {A : Type 0} (p : A → Bool) (x : A) (xs : List A) (b : Bool) → p x ≡ b
        → cond (not (p x)) (x ∷ filter (λ x. not (p x)) xs) (filter (λ x. not (p x)) xs) ≡ []
        → (filter (λ x. not (p x)) xs ≡ [] → list_all p xs ≡ true) → (p x && list_all p xs) ≡ true
    by p x xs true h e rest = ap (λ b. b && list_all p xs) h
        ∙ rest (sym (ap (λ b. cond (not b) (x ∷ filter (λ x. not (p x)) xs) (filter (λ x. not (p x)) xs)) h) ∙ e)
    by p x xs false h e rest =
        absurd (nil-not-cons x (filter (λ x. not (p x)) xs) (sym (ap (λ b. cond (not b) (x ∷ filter (λ x. not (p x)) xs) (filter (λ x. not (p x)) xs)) h) ∙ e))
