-- Lists that share nodes at the front and at the back.
use Rattle.std.proofs.Common.{◌≡◌, ℕ, ◌+◌, ◌-◌, ◌<◌, List, [], ◌∷◌, ◌++◌, length, get_or, drop, refl, sym, ap, ap₂, ◌∙◌, arith}
use Rattle.std.proofs.lemmas.List.{take_more, drop_more}
use Rattle.vr_reach.specs.Stretches.{SharesFront, SharesBack}

-- one node more at the front
pub front_more : (old new : List ℕ) (a : ℕ) → SharesFront old new a → a < length old
    → a < length new → get_or old a 0 ≡ get_or new a 0 → SharesFront old new (a + 1)
front_more old new a shares low high same = record {
  same = take_more old a 0 low ∙ (ap₂ (λ xs x. xs ++ x ∷ []) shares.same same ∙ sym (take_more new a 0 high));
  within_old = omega (arith, low);
  within_new = omega (arith, high);
}

-- one node more at the back
pub back_more : (old new : List ℕ) (z : ℕ) → SharesBack old new z → z < length old → z < length new
    → get_or old (length old - 1 - z) 0 ≡ get_or new (length new - 1 - z) 0 → SharesBack old new (z + 1)
back_more old new z shares low high same = record {
  same =
      let i : length old - (z + 1) ≡ length old - 1 - z = omega arith in
      let j : length new - (z + 1) ≡ length new - 1 - z = omega arith in
      let ii : length old - 1 - z + 1 ≡ length old - z = omega (arith, low) in
      let jj : length new - 1 - z + 1 ≡ length new - z = omega (arith, high) in
      ap (λ n. drop n old) i
      ∙ (drop_more old (length old - 1 - z) 0 (omega (arith, low))
      ∙ (ap₂ (λ x xs. x ∷ xs) same (ap (λ n. drop n old) ii ∙ (shares.same ∙ ap (λ n. drop n new) (sym jj)))
      ∙ (sym (drop_more new (length new - 1 - z) 0 (omega (arith, high))) ∙ ap (λ n. drop n new) (sym j))));
  within_old = omega (arith, low);
  within_new = omega (arith, high);
}

drop_length : (xs : List ℕ) → drop (length xs) xs ≡ []
drop_length [] = refl
drop_length (x ∷ xs) = drop_length xs

pub none_at_back : (old new : List ℕ) → SharesBack old new 0
none_at_back old new = record {
  same =
      let i : length old - 0 ≡ length old = omega arith in
      let j : length new - 0 ≡ length new = omega arith in
      ap (λ n. drop n old) i ∙ (drop_length old ∙ sym (ap (λ n. drop n new) j ∙ drop_length new));
  within_old = omega arith;
  within_new = omega arith;
}

pub none_at_front : (old new : List ℕ) → SharesFront old new 0
none_at_front old new = record { same = refl; within_old = omega arith; within_new = omega arith }
