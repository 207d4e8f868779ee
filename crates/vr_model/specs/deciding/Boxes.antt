-- Of the lists of numbers in a box that pass a test, the least in lexicographic order.
use Rattle.std.proofs.Common.{◌≡◌, ℕ, zero, suc, Bool, true, false, List, [], ◌∷◌, refl, sym, subst, inl, inr, arith}
use Rattle.std.proofs.Common.{◌⊎◌}
use Rattle.std.specs.Prelude.{ℤ, pos, ◌+ℤ◌, ◌≤ℤ◌, ◌<ℤ◌, int_le, int_lt, IsTrue}
use Rattle.std.proofs.lemmas.Int.{ints}
use Rattle.vr_model.specs.tables.Numbers.{is_lex_le}
use Rattle.vr_model.specs.deciding.Testing.{or_left, or_right, and_both, test_of_le}

-- the list lies in the box: its entries are in lo..lo+n of each side in turn
abbrev pub InBox : List (ℤ × ℕ) → List ℤ → Type 0
InBox [] [] = Unit {0}
InBox [] (x ∷ xs) = ⊥
InBox (side ∷ box) [] = ⊥
InBox (side ∷ box) (x ∷ xs) = ((side.0 ≤ℤ x) × (x <ℤ (side.0 +ℤ pos side.1))) × InBox box xs

pub record IsLeastIn (box : List (ℤ × ℕ)) (test : List ℤ → Bool) (xs : List ℤ) : Type 0 where
  pub inside : InBox box xs
  pub passes : IsTrue (test xs)
  pub least : (ys : List ℤ) → InBox box ys → IsTrue (test ys) → IsTrue (is_lex_le xs ys)

abbrev pub NonePassesIn : List (ℤ × ℕ) → (List ℤ → Bool) → Type 0
NonePassesIn box test = (ys : List ℤ) → InBox box ys → IsTrue (test ys) → ⊥

abbrev pub IsLeastOrNone : List (ℤ × ℕ) → (List ℤ → Bool) → Type 0
IsLeastOrNone box test = ((xs : List ℤ) × IsLeastIn box test xs) ⊎ NonePassesIn box test

is_lt_test : (x y : ℤ) → x <ℤ y → IsTrue (int_lt x y)
is_lt_test x y h = Prim.grind (arith, ints)

lex_first : (x y : ℤ) (xs ys : List ℤ) → x <ℤ y → IsTrue (is_lex_le (x ∷ xs) (y ∷ ys))
lex_first x y xs ys h = or_left (int_lt x y) _ (is_lt_test x y h)

lex_same : (x y : ℤ) (xs ys : List ℤ) → x ≡ y → IsTrue (is_lex_le xs ys) → IsTrue (is_lex_le (x ∷ xs) (y ∷ ys))
lex_same x y xs ys e h = or_right (int_lt x y) _ (and_both (int_le x y) _ (test_of_le x y (omega (arith, ints))) h)

split_first : (x y : ℤ) → x ≤ℤ y → (x ≡ y) ⊎ (x <ℤ y)
split_first x y h = Prim.grind (arith, ints)

-- a list of a box whose first entry is above lo lies in the box whose first side begins one later
later : (lo : ℤ) (n : ℕ) (box : List (ℤ × ℕ)) (y : ℤ) (ys : List ℤ) → InBox ((lo, suc n) ∷ box) (y ∷ ys) → lo <ℤ y
    → InBox ((lo +ℤ pos 1, n) ∷ box) (y ∷ ys)
later lo n box y ys h more = ((omega (arith, ints, more), omega (arith, ints, h.0.1)), h.1)

in_earlier_box : (lo : ℤ) (n : ℕ) (box : List (ℤ × ℕ)) (xs : List ℤ) → InBox ((lo +ℤ pos 1, n) ∷ box) xs
    → InBox ((lo, suc n) ∷ box) xs
in_earlier_box lo n box [] h = h
in_earlier_box lo n box (x ∷ xs) h = ((omega (arith, ints, h.0.0), omega (arith, ints, h.0.1)), h.1)

one_more : (box : List (ℤ × ℕ)) (lo : ℤ) (n : ℕ) (test : List ℤ → Bool) → IsLeastOrNone box (λ xs. test (lo ∷ xs))
    → IsLeastOrNone ((lo +ℤ pos 1, n) ∷ box) test → IsLeastOrNone ((lo, suc n) ∷ box) test
one_more box lo n test (inl r) rest =
    inl (
      lo ∷ r.0,
      record {
        inside =
            ((omega (arith, ints), omega (arith, ints)), r.1.inside);
        passes = r.1.passes;
        least = least;
      },
    )
  where
    least : (ys : List ℤ) → InBox ((lo, suc n) ∷ box) ys → IsTrue (test ys) → IsTrue (is_lex_le (lo ∷ r.0) ys)
    least [] h t = absurd h
    least (y ∷ ys) h t = elim (split_first lo y h.0.0) [
      | inl e ↦ lex_same lo y r.0 ys e (r.1.least ys h.1 (subst (λ z. IsTrue (test (z ∷ ys))) (sym e) t))
      | inr more ↦ lex_first lo y r.0 ys more
    ]
one_more box lo n test (inr none) (inl r) =
    inl (r.0, record { inside = in_earlier_box lo n box r.0 r.1.inside; passes = r.1.passes; least = least })
  where
    least : (ys : List ℤ) → InBox ((lo, suc n) ∷ box) ys → IsTrue (test ys) → IsTrue (is_lex_le r.0 ys)
    least [] h t = absurd h
    least (y ∷ ys) h t = elim (split_first lo y h.0.0) [
      | inl e ↦ absurd (none ys h.1 (subst (λ z. IsTrue (test (z ∷ ys))) (sym e) t))
      | inr more ↦ r.1.least (y ∷ ys) (later lo n box y ys h more) t
    ]
one_more box lo n test (inr none) (inr none_later) = inr nothing
  where
    nothing : (ys : List ℤ) → InBox ((lo, suc n) ∷ box) ys → IsTrue (test ys) → ⊥
    nothing [] h t = h
    nothing (y ∷ ys) h t = elim (split_first lo y h.0.0) [
      | inl e ↦ none ys h.1 (subst (λ z. IsTrue (test (z ∷ ys))) (sym e) t)
      | inr more ↦ none_later (y ∷ ys) (later lo n box y ys h more) t
    ]

no_entry : (lo : ℤ) (box : List (ℤ × ℕ)) (ys : List ℤ) → InBox ((lo, 0) ∷ box) ys → ⊥
no_entry lo box [] h = h
no_entry lo box (y ∷ ys) h = omega (arith, ints, h.0.0, h.0.1)

side_found : (box : List (ℤ × ℕ)) → ((test : List ℤ → Bool) → IsLeastOrNone box test)
    → (n : ℕ) (lo : ℤ) (test : List ℤ → Bool)
    → IsLeastOrNone ((lo, n) ∷ box) test
side_found box sub zero lo test = inr (λ ys h t. no_entry lo box ys h)
side_found box sub (suc n) lo test =
    one_more box lo n test (sub (λ xs. test (lo ∷ xs))) (side_found box sub n (lo +ℤ pos 1) test)

empty_found : (test : List ℤ → Bool) (b : Bool) → test [] ≡ b → IsLeastOrNone [] test
empty_found test true e = inl ([], record { inside = tt; passes = e; least = λ ys h t. refl })
empty_found test false e = inr none
  where
    none : (ys : List ℤ) → InBox [] ys → IsTrue (test ys) → ⊥
    none [] h t = let f : test [] ≡ true → test [] ≡ false → ⊥ = λ a b. Prim.cc in f t e
    none (y ∷ ys) h t = h

-- the least list of a box that passes a test, or that none passes
pub least_in_box : (box : List (ℤ × ℕ)) (test : List ℤ → Bool) → IsLeastOrNone box test
least_in_box [] test = empty_found test (test []) refl
least_in_box (side ∷ box) test = side_found box (least_in_box box) side.1 side.0 test
