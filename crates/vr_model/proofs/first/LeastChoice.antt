-- The choice of a least entry gives the first one of the least key.
use Rattle.std.proofs.Common.{◌≡◌, ℕ, zero, suc, ◌<◌, Bool, true, false, cond, List, [], ◌∷◌, Some, refl, sym, ◌∙◌, ap, subst, inl, inr, arith, ◌⊎◌}
use Rattle.std.specs.Prelude.{ℤ, slice_index_or, fold, MatchOption}
use Rattle.std.specs.List.{All}
use Rattle.vr_model.specs.tables.Numbers.{is_lex_less}
use Rattle.vr_model.specs.first.Choosing.{better, least_by}
use Rattle.vr_model.specs.search.ChoosingLaws.{IsFirstLeast, LeastIsFirst}
use Rattle.vr_model.proofs.tables.Tests.{clash, fails}
use Rattle.vr_model.proofs.first.LexOrder.{less_self, less_trans, less_split}

module _ {A : Type 0} (key : A → List ℤ) where
  abbrev less : A → A → Bool
  less y best = is_lex_less (key y) (key best)

  -- of an entry and a list behind it, the entry stays the best, or the first least entry of the list is less
  abbrev IsBestOf : A → List A → A → Type 0
  IsBestOf b xs best = ((best ≡ b) × All (λ y. less y b ≡ false) xs) ⊎ (IsFirstLeast key xs best × (less best b ≡ true))

  kept_first : (b : A) (xs : List A) → All (λ y. less y b ≡ false) xs → IsFirstLeast key (b ∷ xs) b
  kept_first b xs h = record { place = 0; in_list = omega arith; stands_there = λ d. refl; least = least; first = λ k d low. absurd (omega (arith, low)) }
    where
      least : All (λ y. less y b ≡ false) (b ∷ xs)
      least zero d low = fails (less b b) (less_self (key b))
      least (suc k) d low = h k d (omega (arith, low))

  -- one entry more in front, which is greater than the least of the others
  behind : (y : A) (ys : List A) (best : A) → IsFirstLeast key ys best → less y best ≡ false → less best y ≡ true → IsFirstLeast key (y ∷ ys) best
  behind y ys best f above greater =
      record { place = suc f.place; in_list = (let l = f.in_list in omega (arith, l)); stands_there = f.stands_there; least = least; first = first }
    where
      least : All (λ z. less z best ≡ false) (y ∷ ys)
      least zero d low = above
      least (suc k) d low = f.least k d (omega (arith, low))

      first : (k : ℕ) (d : A) → k < suc f.place → is_lex_less (key best) (key (slice_index_or (y ∷ ys) k d)) ≡ true
      first zero d low = greater
      first (suc k) d low = f.first k d (omega (arith, low))

  best_of : (b : A) (xs : List A) → (best : A) × (fold (better key) (Some b) xs ≡ Some best) × IsBestOf b xs best
  best_of b [] = (b, refl, inl (refl, λ k d low. absurd (omega (arith, low))))
  best_of b (y ∷ ys) = go (λ c. best_of c ys) (less y b) refl
    where
      after : (c : Bool) → less y b ≡ c → fold (better key) (Some b) (y ∷ ys) ≡ fold (better key) (Some (cond c y b)) ys
      after c e = ap (λ t. fold (better key) (Some (cond t y b)) ys) e

      taken : less y b ≡ true → (best : A) → IsBestOf y ys best → IsBestOf b (y ∷ ys) best
      taken e best (inl (same, none)) = inr (subst (IsFirstLeast key (y ∷ ys)) (sym same) (kept_first y ys none), ap (λ z. less z b) same ∙ e)
      taken e best (inr (f, low)) = inr (
        behind y ys best f (fails (less y best) (λ t. less_self (key y) (less_trans (key y) (key best) (key y) t low))) low,
        less_trans (key best) (key y) (key b) low e,
      )

      left : less y b ≡ false → (best : A) → IsBestOf b ys best → IsBestOf b (y ∷ ys) best
      left e best (inl (same, none)) = inl (same, each)
        where
          each : All (λ z. less z b ≡ false) (y ∷ ys)
          each zero d low = e
          each (suc k) d low = none k d (omega (arith, low))
      left e best (inr (f, low)) =
          inr (behind y ys best f (fails (less y best) (λ t. clash (less y b) (less_trans (key y) (key best) (key b) t low) e)) above, low)
        where
          above : less best y ≡ true
          above = elim (less_split (key best) (key y) (key b) low) [ inl t ↦ t | inr t ↦ absurd (clash (less y b) t e) ]

      go : ((c : A) → (best : A) × (fold (better key) (Some c) ys ≡ Some best) × IsBestOf c ys best) → (c : Bool)
          → less y b ≡ c → (best : A) × (fold (better key) (Some b) (y ∷ ys) ≡ Some best) × IsBestOf b (y ∷ ys) best
      go rest true e = let r = rest y in (r.0, after true e ∙ r.1, taken e r.0 r.2)
      go rest false e = let r = rest b in (r.0, after false e ∙ r.1, left e r.0 r.2)

  first_of : (b : A) (xs : List A) (best : A) → IsBestOf b xs best → IsFirstLeast key (b ∷ xs) best
  first_of b xs best (inl (same, none)) = subst (IsFirstLeast key (b ∷ xs)) (sym same) (kept_first b xs none)
  first_of b xs best (inr (f, low)) = behind b xs best f (fails (less b best) (λ t. less_self (key b) (less_trans (key b) (key best) (key b) t low))) low

  pub least_first : (xs : List A) → MatchOption (least_by key xs) (xs ≡ []) (IsFirstLeast key xs)
  least_first [] = refl
  least_first (x ∷ xs) = let r = best_of x xs in subst (λ o. MatchOption o ((x ∷ xs) ≡ []) (IsFirstLeast key (x ∷ xs))) (sym r.1) (first_of x xs r.0 r.2)

pub least_is_first : (A : Type 0) → LeastIsFirst A
least_is_first A key xs = least_first key xs
