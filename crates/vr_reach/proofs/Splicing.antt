-- Lists that keep the front and the end of others.
use Rattle.std.proofs.Common.{◌≡◌, ℕ, ◌+◌, ◌-◌, ◌<◌, ◌≤◌, List, ◌++◌, length, get_or, take, drop, refl, sym, ap, ap₂, ◌∙◌, arith}
use Rattle.std.proofs.lemmas.List.{append-nil, drop_all, drop-drop, length-append, length-drop, length-take-le, get_or_append_left, get_or-append_right}
use Rattle.std.proofs.lemmas.List.{get_or-take, get_or-drop}
use Rattle.std.proofs.Math.Seq.{take-append_seam, drop-append_seam, drop-append-add}
use Rattle.vr_reach.specs.Spliced.{spliced, AreSeams}
use Rattle.vr_reach.specs.Stretches.{SharesFront, SharesBack}

module _ (old middle : List ℕ) (front behind : ℕ) (seams : AreSeams (length old) front behind) where
  kept_front : length (take front old) ≡ front
  kept_front = length-take-le front old (let a = seams.order in let b = seams.high in omega (arith, a, b))

  pub long : length (spliced old front behind middle) ≡ front + (length middle + (length old - behind))
  long = length-append (take front old) (middle ++ drop behind old)
      ∙ ap₂ (λ a b. a + b) kept_front (length-append middle (drop behind old) ∙ ap (λ n. length middle + n) (length-drop behind old))

  pub at_front : (k : ℕ) → k < front → get_or (spliced old front behind middle) k 0 ≡ get_or old k 0
  at_front k low =
      get_or_append_left (take front old) (middle ++ drop behind old) 0 k (let n = kept_front in omega (arith, n, low))
      ∙ get_or-take front old k 0 low

  pub at_middle : (k : ℕ) → front ≤ k → k - front < length middle → get_or (spliced old front behind middle) k 0 ≡ get_or middle (k - front) 0
  at_middle k past low =
      get_or-append_right (take front old) (middle ++ drop behind old) front k 0 kept_front past
      ∙ get_or_append_left middle (drop behind old) 0 (k - front) low

  pub at_back : (k : ℕ) → front ≤ k → length middle ≤ k - front
      → get_or (spliced old front behind middle) k 0 ≡ get_or old (k - front - length middle + behind) 0
  at_back k past later =
      let i : behind + (k - front - length middle) ≡ k - front - length middle + behind = omega arith in
      get_or-append_right (take front old) (middle ++ drop behind old) front k 0 kept_front past
      ∙ (get_or-append_right middle (drop behind old) (length middle) (k - front) 0 refl later
      ∙ (get_or-drop behind old (k - front - length middle) 0 ∙ ap (λ n. get_or old n 0) i))

  pub shares_front : SharesFront old (spliced old front behind middle) front
  shares_front = record {
    same = sym (ap (λ n. take n (spliced old front behind middle)) (sym kept_front) ∙ take-append_seam (take front old) (middle ++ drop behind old));
    within_old = let a = seams.order in let b = seams.high in omega (arith, a, b);
    within_new = let n = long in omega (arith, n);
  }

  pub shares_back : SharesBack old (spliced old front behind middle) (length old - behind)
  shares_back = record {
    same =
        let high = seams.high in
        let n = long in
        let i : length old - (length old - behind) ≡ behind = omega (arith, high) in
        let j : length (spliced old front behind middle) - (length old - behind) ≡ front + length middle = omega (arith, n) in
        ap (λ k. drop k old) i
        ∙ sym (ap (λ k. drop k (spliced old front behind middle)) (j ∙ ap (λ k. k + length middle) (sym kept_front))
        ∙ (drop-append-add (take front old) (middle ++ drop behind old) (length middle) ∙ drop-append_seam middle (drop behind old)));
    within_old = omega arith;
    within_new = let n = long in omega (arith, n);
  }

-- a list that keeps nothing of another
pub whole_list : (list : List ℕ) → spliced list 0 (length list) list ≡ list
whole_list list = ap (λ l. list ++ l) (drop_all (length list) list (omega arith)) ∙ append-nil list

-- fewer nodes at the back
pub fewer_at_back : (old new : List ℕ) (z w : ℕ) → SharesBack old new z → w ≤ z → SharesBack old new w
fewer_at_back old new z w shares fewer =
    let low = shares.within_old in
    let low_too = shares.within_new in
    let i : length old - w ≡ length old - z + (z - w) = omega (arith, low, fewer) in
    let j : length new - w ≡ length new - z + (z - w) = omega (arith, low_too, fewer) in
    record {
      same = ap (λ n. drop n old) i ∙ (sym (drop-drop (z - w) (length old - z) old) ∙ (ap (drop (z - w)) shares.same
          ∙ (drop-drop (z - w) (length new - z) new ∙ ap (λ n. drop n new) (sym j))));
      within_old = omega (arith, low, fewer);
      within_new = omega (arith, low_too, fewer);
    }
