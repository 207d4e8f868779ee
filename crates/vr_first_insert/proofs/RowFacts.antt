-- What is known in a row, by what was found and when.
use Rattle.std.proofs.Common.{◌≡◌, ◌∙◌, ◌+◌, ◌<◌, ℕ, zero, suc, cond, List, [], ◌∷◌, All, get_or, length, length-set, map, set, refl, sym, ap, subst, arith}
use Rattle.std.proofs.Common.{inl, inr}
use Rattle.std.specs.Prelude.{replicate}
use Rattle.std.proofs.lemmas.Bool.{cases_lt}
use Rattle.std.proofs.lemmas.Bool.Decides.{eqb_tells}
use Rattle.std.proofs.lemmas.List.{get_or-set_same, get_or-set_other, get_or_past, length-map}
use Rattle.vr_first_insert.specs.declared.known_best.KnownItem.{KnownItem}
use Rattle.vr_first_insert.specs.declared.known_best.KnownItem.TheVariants.{Nothing}
use Rattle.vr_first_insert.specs.declared.known_items.FoundItem.{FoundItem}
use Rattle.vr_first_insert.specs.Found.{known_after, IsFoundBy}

abbrev pub none : FoundItem
none = record { known = Nothing; since = 0 }

-- what is read of an item
pub read : (changes : ℕ) (found : List FoundItem) (i : ℕ) (d : FoundItem) → i < length found
    → get_or (map (known_after changes) found) i Nothing ≡ known_after changes (get_or found i d)
read changes [] i d low = absurd (omega (arith, low))
read changes (f ∷ fs) zero d low = refl
read changes (f ∷ fs) (suc i) d low = read changes fs i d (omega (arith, low))

pub counts : (changes : ℕ) (found : FoundItem) → found.since ≡ changes → known_after changes found ≡ found.known
counts changes found same = elim (eqb_tells found.since changes) [
  | inl e ↦ ap (λ b. cond b found.known Nothing) e.0
  | inr e ↦ absurd (e.1 same)
]

pub counts-not : (changes : ℕ) (found : FoundItem) → (found.since ≡ changes → ⊥) → known_after changes found ≡ Nothing
counts-not changes found other = elim (eqb_tells found.since changes) [
  | inl e ↦ absurd (other e.1)
  | inr e ↦ ap (λ b. cond b found.known Nothing) e.0
]

-- what is known of an item is written
pub written : (changes : ℕ) (found : List FoundItem) (i : ℕ) (known : KnownItem)
    → map (known_after changes) (set found i (record { known = known; since = changes })) ≡ set (map (known_after changes) found) i known
written changes [] i known = refl
written changes (f ∷ fs) zero known = ap (λ k. k ∷ map (known_after changes) fs) (counts changes (record { known = known; since = changes }) refl)
written changes (f ∷ fs) (suc i) known = ap (λ ks. known_after changes f ∷ ks) (written changes fs i known)

pub stays_found : (changes : ℕ) (found : List FoundItem) (i : ℕ) (new : FoundItem)
    → All (IsFoundBy changes) found → IsFoundBy changes new → All (IsFoundBy changes) (set found i new)
stays_found changes found i new all here k d low = elim (eqb_tells k i) [
  | inl e ↦
      subst (λ j. IsFoundBy changes (get_or (set found i new) j d)) (sym e.1) (subst (IsFoundBy changes) (sym (get_or-set_same found i new d (by e.1))) here)
  | inr e ↦ subst (IsFoundBy changes) (sym (get_or-set_other found i k new d e.1)) (all k d (let n = length-set found i new in omega (arith, low, n)))
]
  where
    by : k ≡ i → i < length found
    by e = let n = length-set found i new in omega (arith, low, n, e)

-- after one change more nothing is known
pub nothing_after : (changes : ℕ) (found : List FoundItem) → All (IsFoundBy changes) found
    → (i : ℕ) → get_or (map (known_after (changes + 1)) found) i Nothing ≡ Nothing
nothing_after changes found all i = elim (cases_lt i (length found)) [
  | inl low ↦ read (changes + 1) found i none low ∙ counts-not (changes + 1) (get_or found i none) (λ e. let b = all i none low in absurd (omega (arith, b, e)))
  | inr past ↦ get_or_past (map (known_after (changes + 1)) found) i Nothing (let n = length-map found (known_after (changes + 1)) in omega (arith, past, n))
]

pub found_later : (changes : ℕ) (found : List FoundItem) → All (IsFoundBy changes) found → All (IsFoundBy (changes + 1)) found
found_later changes found all k d low = let b = all k d low in omega (arith, b)

-- nothing is known where nothing was found
pub nothing_found : (n : ℕ) → map (known_after 0) (replicate n none) ≡ replicate n Nothing
nothing_found zero = refl
nothing_found (suc n) = ap (λ ks. Nothing ∷ ks) (nothing_found n)

-- nothing is known where all that was found was taken away
pub nothing_cleared : (found : List FoundItem) → ((i : ℕ) → i < length found → get_or found i none ≡ none)
    → (i : ℕ) → get_or (map (known_after 1) found) i Nothing ≡ Nothing
nothing_cleared found cleared i = elim (cases_lt i (length found)) [
  | inl low ↦ read 1 found i none low ∙ ap (known_after 1) (cleared i low)
  | inr past ↦ get_or_past (map (known_after 1) found) i Nothing (let n = length-map found (known_after 1) in omega (arith, past, n))
]
