-- What a list shares with one that has a visit or a pair put in.
use Rattle.std.proofs.Common.{◌≡◌, ◌∙◌, ◌+◌, ◌-◌, ◌≤◌, ◌++◌, ℕ, zero, suc, List, [], ◌∷◌, refl, ap, sym, subst, arith, length, take, drop}
use Rattle.std.specs.Prelude.{insert}
use Rattle.std.proofs.lemmas.List.Edits.{length-insert}
use Rattle.vr_model.specs.moves.Moves.{with_pair}
use Rattle.vr_model.specs.declared.records.Pair.{Pair}
use Rattle.vr_reach.specs.Stretches.{SharesFront, SharesBack}

taken : (list : List ℕ) (t x : ℕ) → t ≤ length list → take t list ≡ take t (insert list t x)
taken list zero x le = refl
taken [] (suc t) x le = absurd (omega (arith, le))
taken (y ∷ ys) (suc t) x le = ap (λ l. y ∷ l) (taken ys t x (omega (arith, le)))

-- what stands behind a place stands one place later where a node was put in there or before
dropped : (list : List ℕ) (s t x : ℕ) → s ≤ t → t ≤ length list → drop t list ≡ drop (suc t) (insert list s x)
dropped list zero t x order le = refl
dropped list (suc s) zero x order le = absurd (omega (arith, order))
dropped [] (suc s) (suc t) x order le = absurd (omega (arith, le))
dropped (y ∷ ys) (suc s) (suc t) x order le = dropped ys s t x (omega (arith, order)) (omega (arith, le))

-- a visit before place t
pub visit_front : (list : List ℕ) (t x : ℕ) → t ≤ length list → SharesFront list (insert list t x) t
visit_front list t x le = record {
  same = taken list t x le;
  within_old = le;
  within_new = let n = length-insert list t x le in omega (arith, n, le);
}

pub visit_back : (list : List ℕ) (t x : ℕ) → t ≤ length list → SharesBack list (insert list t x) (length list - t)
visit_back list t x le =
    let n = length-insert list t x le in
    let old : length list - (length list - t) ≡ t = omega (arith, le) in
    let new : length (insert list t x) - (length list - t) ≡ suc t = omega (arith, le, n) in
    record {
      same = ap (λ k. drop k list) old ∙ dropped list t t x (omega arith) le ∙ sym (ap (λ k. drop k (insert list t x)) new);
      within_old = omega arith;
      within_new = omega (arith, n);
    }

-- a pair put in is its delivery put into the list with the pickup
pub pair_is : (pair : Pair) (list : List ℕ) (s t : ℕ) → s ≤ t → t ≤ length list
    → with_pair pair s t list ≡ insert (insert list s pair.pickup) (suc t) pair.delivery
pair_is pair list zero t order le =
    let e : t - 0 ≡ t = omega arith in
    ap (λ n. pair.pickup ∷ (take n list ++ (pair.delivery ∷ drop t list))) e
pair_is pair list (suc s) zero order le = absurd (omega (arith, order))
pair_is pair [] (suc s) (suc t) order le = absurd (omega (arith, le))
pair_is pair (y ∷ ys) (suc s) (suc t) order le =
    let e : suc t - suc s ≡ t - s = omega arith in
    ap (λ n. y ∷ (take s ys ++ (pair.pickup ∷ (take n (drop s ys) ++ (pair.delivery ∷ drop t ys))))) e
    ∙ ap (λ l. y ∷ l) (pair_is pair ys s t (omega (arith, order)) (omega (arith, le)))

-- it shares the nodes up to the delivery with the list with the pickup
pub pair_front : (pair : Pair) (list : List ℕ) (s t u : ℕ) → s ≤ u → u ≤ t → t ≤ length list
    → SharesFront (insert list s pair.pickup) (with_pair pair s t list) (u + 1)
pair_front pair list s t u low order le =
    let half : List ℕ = insert list s pair.pickup in
    let n = length-insert list s pair.pickup (omega (arith, low, order, le)) in
    let one : u + 1 ≡ suc u = omega arith in
    let longer = length-insert half (suc t) pair.delivery (omega (arith, n, le)) in
    subst (λ new. SharesFront half new (u + 1)) (sym (pair_is pair list s t (omega (arith, low, order)) le)) (record {
      same = ap (λ k. take k half) one ∙ taken_less half (suc u) (suc t) pair.delivery (omega (arith, order)) (omega (arith, n, le))
          ∙ sym (ap (λ k. take k (insert half (suc t) pair.delivery)) one);
      within_old = omega (arith, n, order, le);
      within_new = omega (arith, longer, n, order, le);
    })
  where
    taken_less : (list : List ℕ) (u t x : ℕ) → u ≤ t → t ≤ length list → take u list ≡ take u (insert list t x)
    taken_less list zero t x low le = refl
    taken_less list (suc u) zero x low le = absurd (omega (arith, low))
    taken_less [] (suc u) (suc t) x low le = absurd (omega (arith, le))
    taken_less (y ∷ ys) (suc u) (suc t) x low le = ap (λ l. y ∷ l) (taken_less ys u t x (omega (arith, low)) (omega (arith, le)))

-- it shares the nodes behind the delivery with the list
pub pair_back : (pair : Pair) (list : List ℕ) (s t : ℕ) → s ≤ t → t ≤ length list → SharesBack list (with_pair pair s t list) (length list - t)
pair_back pair list s t order le =
    let half : List ℕ = insert list s pair.pickup in
    let n = length-insert list s pair.pickup (omega (arith, order, le)) in
    let m = length-insert half (suc t) pair.delivery (omega (arith, n, le)) in
    let old : length list - (length list - t) ≡ t = omega (arith, le) in
    let new : length (insert half (suc t) pair.delivery) - (length list - t) ≡ suc (suc t) = omega (arith, le, n, m) in
    subst (λ new. SharesBack list new (length list - t)) (sym (pair_is pair list s t order le)) (record {
      same = ap (λ k. drop k list) old ∙ dropped list s t pair.pickup order le ∙ dropped half (suc t) (suc t) pair.delivery (omega arith) (omega (arith, n, le))
          ∙ sym (ap (λ k. drop k (insert half (suc t) pair.delivery)) new);
      within_old = omega arith;
      within_new = omega (arith, n, m);
    })

-- how long the list with the pair is
pub pair_long : (pair : Pair) (list : List ℕ) (s t : ℕ) → s ≤ t → t ≤ length list → length (with_pair pair s t list) ≡ length list + 2
pair_long pair list s t order le =
    let n = length-insert list s pair.pickup (omega (arith, order, le)) in
    let m = length-insert (insert list s pair.pickup) (suc t) pair.delivery (omega (arith, n, le)) in
    ap length (pair_is pair list s t order le) ∙ omega (arith, n, m)
