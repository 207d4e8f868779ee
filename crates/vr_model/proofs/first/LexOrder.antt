-- The lexicographic order of keys.
use Rattle.std.proofs.Common.{◌≡◌, true, false, List, [], ◌∷◌, refl, inl, inr, arith, ◌⊎◌}
use Rattle.std.specs.Prelude.{ℤ, ◌<ℤ◌, int_le, int_lt, IsTrue}
use Rattle.std.proofs.lemmas.Int.{ints}
use Rattle.vr_model.specs.tables.Numbers.{is_lex_less}
use Rattle.vr_model.specs.deciding.Testing.{and_left, and_right, and_both, or_cases, or_left, or_right, le_of_test, test_of_le}

lt_of_test : (x y : ℤ) → IsTrue (int_lt x y) → x <ℤ y
lt_of_test x y h = Prim.grind (arith, ints)

test_of_lt : (x y : ℤ) → x <ℤ y → IsTrue (int_lt x y)
test_of_lt x y h = Prim.grind (arith, ints)

-- how two numbers stand to each other
compare : (x y : ℤ) → (x <ℤ y) ⊎ ((x ≡ y) ⊎ (y <ℤ x))
compare x y = Prim.grind (arith, ints)

-- a key is less by its first number, or by the others
less_cases : (x y : ℤ) (xs ys : List ℤ) → IsTrue (is_lex_less (x ∷ xs) (y ∷ ys)) → (x <ℤ y) ⊎ ((x ≡ y) × IsTrue (is_lex_less xs ys))
less_cases x y xs ys h = elim (or_cases (int_lt x y) _ h) [
  | inl first ↦ inl (lt_of_test x y first)
  | inr rest ↦ (let low = le_of_test x y (and_left (int_le x y) _ rest) in elim (compare x y) [
    | inl less ↦ inl less
    | inr (inl same) ↦ inr (same, and_right (int_le x y) _ rest)
    | inr (inr more) ↦ absurd (omega (arith, ints, low, more))
  ])
]

less_first : (x y : ℤ) (xs ys : List ℤ) → x <ℤ y → IsTrue (is_lex_less (x ∷ xs) (y ∷ ys))
less_first x y xs ys h = or_left (int_lt x y) _ (test_of_lt x y h)

less_rest : (x y : ℤ) (xs ys : List ℤ) → x ≡ y → IsTrue (is_lex_less xs ys) → IsTrue (is_lex_less (x ∷ xs) (y ∷ ys))
less_rest x y xs ys e h = or_right (int_lt x y) _ (and_both (int_le x y) _ (test_of_le x y (omega (arith, ints, e))) h)

no_less : false ≡ true → ⊥
no_less h = Prim.cc

-- no key is less than itself
pub less_self : (xs : List ℤ) → IsTrue (is_lex_less xs xs) → ⊥
less_self [] h = no_less h
less_self (x ∷ xs) h = elim (less_cases x x xs xs h) [ inl less ↦ omega (arith, ints, less) | inr rest ↦ less_self xs rest.1 ]

pub less_trans : (xs ys zs : List ℤ) → IsTrue (is_lex_less xs ys) → IsTrue (is_lex_less ys zs) → IsTrue (is_lex_less xs zs)
less_trans xs [] zs h g = absurd (no_less h)
less_trans xs (y ∷ ys) [] h g = absurd (no_less g)
less_trans [] (y ∷ ys) (z ∷ zs) h g = refl
less_trans (x ∷ xs) (y ∷ ys) (z ∷ zs) h g = elim (less_cases x y xs ys h) [
  | inl less ↦ elim (less_cases y z ys zs g) [
    | inl more ↦ less_first x z xs zs (omega (arith, ints, less, more))
    | inr (same, rest) ↦ less_first x z xs zs (omega (arith, ints, less, same))
  ]
  | inr (same, rest) ↦ elim (less_cases y z ys zs g) [
    | inl more ↦ less_first x z xs zs (omega (arith, ints, same, more))
    | inr (same_too, others) ↦ less_rest x z xs zs (omega (arith, ints, same, same_too)) (less_trans xs ys zs rest others)
  ]
]

-- a key between: where one is less than another, each third is above the first or below the second
pub less_split : (xs ys zs : List ℤ) → IsTrue (is_lex_less xs zs) → IsTrue (is_lex_less xs ys) ⊎ IsTrue (is_lex_less ys zs)
less_split xs ys [] h = absurd (no_less h)
less_split xs [] (z ∷ zs) h = inr refl
less_split [] (y ∷ ys) (z ∷ zs) h = inl refl
less_split (x ∷ xs) (y ∷ ys) (z ∷ zs) h = elim (compare x y) [
  | inl less ↦ inl (less_first x y xs ys less)
  | inr (inr more) ↦ inr
      (less_first y z ys zs (elim (less_cases x z xs zs h) [ inl low ↦ omega (arith, ints, more, low) | inr (same, rest) ↦ omega (arith, ints, more, same) ]))
  | inr (inl same) ↦ elim (less_cases x z xs zs h) [
    | inl low ↦ inr (less_first y z ys zs (omega (arith, ints, same, low)))
    | inr (equal, rest) ↦ elim (less_split xs ys zs rest) [
      | inl left ↦ inl (less_rest x y xs ys same left)
      | inr right ↦ inr (less_rest y z ys zs (omega (arith, ints, same, equal)) right)
    ]
  ]
]
