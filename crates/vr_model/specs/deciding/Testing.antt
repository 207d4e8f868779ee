-- Tests that compute, and the facts that they show.
use Rattle.std.proofs.Common.{◌≡◌, ℕ, zero, suc, ◌+◌, ◌<◌, ◌≤◌, Bool, true, false, ◌&&◌, List, [], ◌∷◌, length}
use Rattle.std.proofs.Common.{refl, subst, inl, inr, arith, ◌⊎◌}
use Rattle.std.specs.Prelude.{ℤ, ◌≤ℤ◌, int_le, ◌||◌, IsTrue, EachIndex, ◌==◌}
use Rattle.std.specs.List.{list_all, list_any, range_with_len}
use Rattle.std.proofs.lemmas.Int.{ints}
use Rattle.std.proofs.lemmas.Bool.{cases_lt}
use Rattle.vr_model.specs.tables.Numbers.{below, within}

pub and_left : (a b : Bool) → IsTrue (a && b) → IsTrue a
and_left true b h = refl
and_left false b h = h

pub and_right : (a b : Bool) → IsTrue (a && b) → IsTrue b
and_right true b h = h
and_right false b h = Prim.cc

pub and_both : (a b : Bool) → IsTrue a → IsTrue b → IsTrue (a && b)
and_both true b h g = g
and_both false b h g = h

pub or_cases : (a b : Bool) → IsTrue (a || b) → IsTrue a ⊎ IsTrue b
or_cases true b h = inl refl
or_cases false b h = inr h

pub or_left : (a b : Bool) → IsTrue a → IsTrue (a || b)
or_left true b h = refl
or_left false b h = absurd (let f : false ≡ true → ⊥ = λ e. Prim.cc in f h)

pub or_right : (a b : Bool) → IsTrue b → IsTrue (a || b)
or_right true b h = refl
or_right false b h = h

-- a test that passes on a range passes at each number of it
pub list_all_range : (p : ℕ → Bool) (a n : ℕ) → IsTrue (list_all p (range_with_len a n)) → (k : ℕ) → a ≤ k → k < a + n
    → IsTrue (p k)
list_all_range p a zero h k low high = absurd (omega arith)
list_all_range p a (suc n) h k low high =
    elim (cases_lt a k) [
      | inl later ↦ list_all_range p (a + 1) n (and_right (p a) _ h) k (omega arith) (omega arith)
      | inr first ↦ (let e : a ≡ k = omega arith in subst (λ i. IsTrue (p i)) e (and_left (p a) _ h))
    ]

-- a test that passes at each place of a list
pub list_all_places : {A : Type 0} (xs : List A) (p : ℕ → Bool) → IsTrue (list_all p (below (length xs)))
    → EachIndex xs (λ k. IsTrue (p k))
list_all_places xs p h k below_length = list_all_range p 0 (length xs) h k (omega arith) (omega arith)

pub le_of_test : (x y : ℤ) → IsTrue (int_le x y) → x ≤ℤ y
le_of_test x y h = omega (arith, ints)

pub within_is : (lo hi x : ℤ) → IsTrue (within lo hi x) → (lo ≤ℤ x) × (x ≤ℤ hi)
within_is lo hi x h = (le_of_test lo x (and_left _ _ h), le_of_test x hi (and_right (int_le lo x) _ h))

pub eq_of_tests : (x y : ℤ) → IsTrue (within x x y) → x ≡ y
eq_of_tests x y h = let b = within_is x x y h in omega (arith, ints, b.0, b.1)

-- a test that passes somewhere on a range passes at some number of it
pub any_place : (p : ℕ → Bool) (a n : ℕ) → IsTrue (list_any p (range_with_len a n)) → (k : ℕ) × (a ≤ k) × (k < a + n)
    × IsTrue (p k)
any_place p a zero h = absurd (let f : false ≡ true → ⊥ = λ e. Prim.cc in f h)
any_place p a (suc n) h = elim (or_cases (p a) _ h) [
  | inl here ↦ (a, omega arith, omega arith, here)
  | inr later ↦ (let r = any_place p (a + 1) n later in (r.0, omega (arith, r.1), omega (arith, r.2), r.3))
]

pub eq_of_test : (m n : ℕ) → IsTrue (m == n) → m ≡ n
eq_of_test m n h = Prim.grind arith

-- a list of tests that all pass
abbrev pub all_pass : List Bool → Bool
all_pass [] = true
all_pass (t ∷ ts) = t && all_pass ts

abbrev pub EachPasses : List Bool → Type 0
EachPasses [] = Unit {0}
EachPasses (t ∷ ts) = IsTrue t × EachPasses ts

pub each_passes : (ts : List Bool) → IsTrue (all_pass ts) → EachPasses ts
each_passes [] h = tt
each_passes (t ∷ ts) h = (and_left t _ h, each_passes ts (and_right t _ h))

-- the other way round: a fact gives its test
pub test_of_le : (x y : ℤ) → x ≤ℤ y → IsTrue (int_le x y)
test_of_le x y h = Prim.grind (arith, ints)

pub test_of_within : (lo hi x : ℤ) → lo ≤ℤ x → x ≤ℤ hi → IsTrue (within lo hi x)
test_of_within lo hi x low high = and_both _ (int_le x hi) (test_of_le lo x low) (test_of_le x hi high)

pub test_of_eq : (m n : ℕ) → m ≡ n → IsTrue (m == n)
test_of_eq m n h = Prim.grind arith

pub tests_of_eq : (x y : ℤ) → x ≡ y → IsTrue (within x x y)
tests_of_eq x y e = test_of_within x x y (omega (arith, ints)) (omega (arith, ints))

pub range_list_all : (p : ℕ → Bool) (a n : ℕ) → ((k : ℕ) → a ≤ k → k < a + n → IsTrue (p k))
    → IsTrue (list_all p (range_with_len a n))
range_list_all p a zero h = refl
range_list_all p a (suc n) h =
    and_both (p a) _ (h a (omega arith) (omega arith))
    (range_list_all p (a + 1) n (λ k low high. h k (omega arith) (omega arith)))

pub places_list_all : {A : Type 0} (xs : List A) (p : ℕ → Bool) → EachIndex xs (λ k. IsTrue (p k))
    → IsTrue (list_all p (below (length xs)))
places_list_all xs p h = range_list_all p 0 (length xs) (λ k low high. h k (omega arith))

pub range_list_any : (p : ℕ → Bool) (a n k : ℕ) → a ≤ k → k < a + n → IsTrue (p k)
    → IsTrue (list_any p (range_with_len a n))
range_list_any p a zero k low high h = absurd (omega arith)
range_list_any p a (suc n) k low high h = elim (cases_lt a k) [
  | inl later ↦ or_right (p a) _ (range_list_any p (a + 1) n k (omega arith) (omega arith) h)
  | inr first ↦ (let e : k ≡ a = omega arith in or_left (p a) _ (subst (λ i. IsTrue (p i)) e h))
]

pub all_passed : (ts : List Bool) → EachPasses ts → IsTrue (all_pass ts)
all_passed [] h = refl
all_passed (t ∷ ts) h = and_both t _ h.0 (all_passed ts h.1)
