-- The lists of the vehicles after a change, part by part.
use Rattle.std.proofs.Common.{◌≡◌, ◌≢◌, ◌∙◌, ◌⊎◌, inl, inr, ℕ, zero, suc, ◌<◌, Bool, true, false, cond, List, [], ◌∷◌, length, length-set, refl, sym, ap, subst}
use Rattle.std.proofs.Common.{arith}
use Rattle.std.specs.Prelude.{All, slice_set}
use Rattle.std.specs.List.{AllPairs}
use Rattle.std.proofs.lemmas.Bool.Decides.{eqb_tells}
use Rattle.vr_model.proofs.routes.Lists.{route_set_other, route_set_same}
use Rattle.vr_model.specs.routes.Routes.{route}
use Rattle.vr_routes.specs.Pieces.{HasEnds, ListAfter, joined, with_parts, changed, no_part, part_at}
use Rattle.vr_routes.specs.Changes.{AreParts}

pub first_part : (f s : ListAfter) (t : Bool) → part_at (f ∷ cond t (s ∷ []) []) 0 ≡ f
first_part f s t = refl

pub second_part : (f s : ListAfter) (t : Bool) (k : ℕ) → k < length (f ∷ cond t (s ∷ []) []) → k ≢ 0 → part_at (f ∷ cond t (s ∷ []) []) k ≡ s
second_part f s t zero low some = absurd (some refl)
second_part f s true (suc zero) low some = refl
second_part f s true (suc (suc k)) low some = absurd (omega (arith, low))
second_part f s false (suc k) low some = absurd (omega (arith, low))

-- a vehicle of no part keeps its list
untouched : (old : List (List ℕ)) (parts : List ListAfter) (lists : List (List ℕ)) (v : ℕ)
    → ((i : ℕ) → i < length parts → (part_at parts i).vehicle ≢ v) → route (with_parts old parts lists) v ≡ route lists v
untouched old [] lists v none = refl
untouched old (p ∷ ps) lists v none =
    untouched old ps _ v (λ i low. none (suc i) (omega (arith, low)))
    ∙ route_set_other lists p.vehicle v (joined old p.pieces) (λ e. none 0 (omega arith) (sym e))

-- the list of a vehicle after the parts is that of one of them, or the one before
list_after_parts : (old : List (List ℕ)) (parts : List ListAfter) (lists : List (List ℕ)) (v : ℕ) → v < length lists
    → ((k : ℕ) × (k < length parts) × ((part_at parts k).vehicle ≡ v) × (route (with_parts old parts lists) v ≡ joined old (part_at parts k).pieces))
    ⊎ (route (with_parts old parts lists) v ≡ route lists v)
list_after_parts old [] lists v low = inr refl
list_after_parts old (p ∷ ps) lists v low = by (list_after_parts old ps (slice_set lists p.vehicle (joined old p.pieces))
    v (let n = length-set lists p.vehicle (joined old p.pieces) in omega (arith, n, low)))
  where
    new : List (List ℕ)
    new = slice_set lists p.vehicle (joined old p.pieces)

    by : ((k : ℕ) × (k < length ps) × ((part_at ps k).vehicle ≡ v) × (route (with_parts old ps new) v ≡ joined old (part_at ps k).pieces))
        ⊎ (route (with_parts old ps new) v ≡ route new v)
        → ((k : ℕ) × (k < length (p ∷ ps)) × ((part_at (p ∷ ps) k).vehicle ≡ v)
        × (route (with_parts old ps new) v ≡ joined old (part_at (p ∷ ps) k).pieces)) ⊎ (route (with_parts old ps new) v ≡ route lists v)
    by (inl m) = inl (suc m.0, (let lt = m.1 in omega (arith, lt)), m.2, m.3)
    by (inr same) = elim (eqb_tells p.vehicle v) [
      | inl at ↦ inl (
        0,
        omega arith,
        at.1,
        same ∙ (ap (route new) (sym at.1) ∙ route_set_same lists p.vehicle (joined old p.pieces) (subst (λ n. n < length lists) (sym at.1) low)),
      )
      | inr other ↦ inr (same ∙ route_set_other lists p.vehicle v (joined old p.pieces) (λ e. other.1 (sym e)))
    ]

-- the list of the vehicle of a part is that of the part
list_of_part : (old : List (List ℕ)) (parts : List ListAfter) (lists : List (List ℕ))
    → AllPairs (λ p q. p.vehicle ≢ q.vehicle) parts → All (λ part. part.vehicle < length lists) parts
    → (k : ℕ) → k < length parts → route (with_parts old parts lists) (part_at parts k).vehicle ≡ joined old (part_at parts k).pieces
list_of_part old [] lists apart each k low = absurd (omega (arith, low))
list_of_part old (p ∷ ps) lists apart each zero low =
    untouched old ps _ p.vehicle (λ i lt e. apart 0 (suc i) no_part (omega arith) (omega (arith, lt)) (sym e))
    ∙ route_set_same lists p.vehicle (joined old p.pieces) (each 0 no_part (omega arith))
list_of_part old (p ∷ ps) lists apart each (suc k) low =
    list_of_part old ps (slice_set lists p.vehicle (joined old p.pieces)) (λ i j d order lt. apart (suc i) (suc j) d (omega (arith, order)) (omega (arith, lt)))
    (λ i d lt. let n = length-set lists p.vehicle (joined old p.pieces) in let h = each (suc i) d (omega (arith, lt)) in omega (arith, n, h)) k
    (omega (arith, low))

module _ (lists : List (List ℕ)) (parts : List ListAfter) (are : AreParts lists parts) where
  pub has_ends : (k : ℕ) → k < length parts → HasEnds (part_at parts k)
  has_ends k low = let few = (are.each_spliced k no_part low).few in omega (arith, few)

  pub part_is : (k : ℕ) → k < length parts → route (changed lists parts) (part_at parts k).vehicle ≡ joined lists (part_at parts k).pieces
  part_is k low = list_of_part lists parts lists are.apart are.each_vehicle k low

  pub part_or_before : (v : ℕ) → v < length lists
      → ((k : ℕ) × (k < length parts) × ((part_at parts k).vehicle ≡ v) × (route (changed lists parts) v ≡ joined lists (part_at parts k).pieces))
      ⊎ (route (changed lists parts) v ≡ route lists v)
  part_or_before v low = list_after_parts lists parts lists v low
