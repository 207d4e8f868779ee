-- Lists in which no key stands twice, as reading makes them: one entry more at a time.
use Rattle.std.proofs.Common.{◌≡◌, ℕ, Bool, true, false, not, ◌&&◌, ◌||◌, ◌==◌, List, [], ◌∷◌, ◌++◌, map, refl, sym, ap, ap₂, ◌∙◌}
use Rattle.std.specs.Prelude.{IsTrue}
use Rattle.std.specs.List.{list_any, flat_map, All}
use Rattle.std.specs.Str.{bytes_eq}
use Rattle.std.proofs.lemmas.Bool.{and_parts, and_from, or_parts, not-true}
use Rattle.std.proofs.lemmas.List.{map-append}
use Rattle.std.proofs.lemmas.List.Folds.{list_any-append}
use Rattle.std.proofs.lemmas.List.Elements.{All-nil, All-push}
use Rattle.vr_json.specs.Reading.{ReaderOf, array}
use Rattle.vr_json.proofs.Lists.{list_any-map}
use Rattle.vr_model.specs.tables.WellFormed.{HasLength, are_distinct_names}
use Rattle.vr_model.specs.routes.Routes.{is_same, is_distinct, holds}
use Rattle.vr_model.proofs.tables.Tests.{eq_turned}
use Rattle.vr_json.proofs.Readings.{EachEnsures, EachFresh, weaker, array_keeps}

pub list_any-flat_map : {A B : Type 0} (p : B → Bool) (f : A → List B) (xs : List A) → list_any p (flat_map f xs) ≡ list_any (λ x. list_any p (f x)) xs
list_any-flat_map p f [] = refl
list_any-flat_map p f (x ∷ xs) = list_any-append p (f x) (flat_map f xs) ∙ ap (λ b. list_any p (f x) || b) (list_any-flat_map p f xs)

pub list_any_same : {A : Type 0} (p q : A → Bool) → ((x : A) → p x ≡ q x) → (xs : List A) → list_any p xs ≡ list_any q xs
list_any_same p q h [] = refl
list_any_same p q h (x ∷ xs) = ap₂ (λ a b. a || b) (h x) (list_any_same p q h xs)

-- no two keys are the same, by a test `same` of two keys
module _ {K : Type 0} (same : K → K → Bool) (distinct : List K → Bool) (none : distinct [] ≡ true)
    (more : (x : K) (xs : List K) → distinct (x ∷ xs) ≡ (not (list_any (same x) xs) && distinct xs)) where
  -- one key more, which is none of those before it
  pub distinct_push : (xs : List K) (x : K) → distinct xs ≡ true → list_any (λ y. same y x) xs ≡ false → distinct (xs ++ x ∷ []) ≡ true
  distinct_push [] x h k = more x [] ∙ none
  distinct_push (y ∷ ys) x h k =
      let parts = and_parts _ _ (sym (more y ys) ∙ h) in
      let apart = or_parts _ _ k in
      let absent : list_any (same y) (ys ++ x ∷ []) ≡ false = list_any-append (same y) ys (x ∷ [])
      ∙ ap₂ (λ a b. a || (b || false)) (not-true _ parts.0) apart.0 in
      more y (ys ++ x ∷ []) ∙ and_from _ _ (ap not absent) (distinct_push ys x parts.1 apart.1)

  pub distinct_keys_push : {A : Type 0} (key : A → K) (xs : List A) (x : A) → distinct (map key xs) ≡ true → list_any (λ y. same (key y) (key x)) xs ≡ false
      → distinct (map key (xs ++ x ∷ [])) ≡ true
  distinct_keys_push key xs x h k = ap distinct (map-append key xs (x ∷ []))
      ∙ distinct_push (map key xs) (key x) h (list_any-map key (λ y. same y (key x)) xs ∙ k)

  -- an array of entries whose keys are distinct
  pub keyed_array_ensures : {A : Type 0} {P : A → Type 0} {read : List A → ReaderOf A} (key : A → K) (lo hi : ℕ)
      → EachFresh P (λ y x. same (key y) (key x)) read
      → EachEnsures (λ xs. HasLength lo hi xs × (All P xs × (distinct (map key xs) ≡ true))) (array lo hi read)
  keyed_array_ensures {P} {read} key lo hi h =
      array_keeps (λ xs. All P xs × (distinct (map key xs) ≡ true)) read
      (λ earlier k path d. weaker (λ x p. (All-push P earlier x k.0 p.0, distinct_keys_push key earlier x k.1 p.1)) (h earlier path d)) lo hi (All-nil P, none)

-- ---- numbers

-- a number more, which the list does not hold
pub is_distinct_push : (xs : List ℕ) (x : ℕ) → IsTrue (is_distinct xs) → holds xs x ≡ false → IsTrue (is_distinct (xs ++ x ∷ []))
is_distinct_push xs x h k =
    distinct_push (λ x y. x == y) is_distinct refl (λ _ _. refl) xs x h (list_any_same (λ y. y == x) (λ y. x == y) (λ y. eq_turned y x) xs ∙ k)

-- an array of entries whose numbers are distinct
pub numbered_array_ensures : {A : Type 0} {P : A → Type 0} {read : List A → ReaderOf A} (key : A → ℕ) (lo hi : ℕ) → EachFresh P (λ y x. key y == key x) read
    → EachEnsures (λ xs. HasLength lo hi xs × (All P xs × IsTrue (is_distinct (map key xs)))) (array lo hi read)
numbered_array_ensures = keyed_array_ensures (λ x y. x == y) is_distinct refl (λ _ _. refl)

-- ---- names

bytes_eq_is : (xs ys : List ℕ) → bytes_eq xs ys ≡ is_same xs ys
bytes_eq_is [] [] = refl
bytes_eq_is [] (y ∷ ys) = refl
bytes_eq_is (x ∷ xs) [] = refl
bytes_eq_is (x ∷ xs) (y ∷ ys) = ap (λ b. (x == y) && b) (bytes_eq_is xs ys)

-- an array of entries whose names are distinct
pub named_array_ensures : {A : Type 0} {P : A → Type 0} {read : List A → ReaderOf A} (name : A → List ℕ) (lo hi : ℕ)
    → EachFresh P (λ y x. bytes_eq (name y) (name x)) read
    → EachEnsures (λ xs. HasLength lo hi xs × (All P xs × IsTrue (are_distinct_names (map name xs)))) (array lo hi read)
named_array_ensures name lo hi h = keyed_array_ensures is_same are_distinct_names refl (λ _ _. refl) name lo hi λ earlier path d.
    weaker (λ x k. (
      k.0,
      sym (list_any_same (λ y. bytes_eq (name y) (name x)) (λ y. is_same (name y) (name x)) (λ y. bytes_eq_is (name y) (name x)) earlier) ∙ k.1,
    )) (h earlier path d)
