-- What a list shares with one that has an item put in.
use Rattle.std.proofs.Common.{◌≡◌, ◌∙◌, ◌-◌, ◌≤◌, ◌++◌, ℕ, zero, suc, List, [], ◌∷◌, refl, ap, sym, subst, arith, length, take, drop}
use Rattle.std.specs.Prelude.{insert}
use Rattle.std.proofs.lemmas.List.Edits.{length-insert}
use Rattle.vr_model.specs.moves.Moves.{with_pair}
use Rattle.vr_model.specs.declared.records.Model.{Model}
use Rattle.vr_model.specs.declared.records.Pair.{Pair}
use Rattle.vr_reach.specs.Lists.{IsUsed}
use Rattle.vr_reach.specs.Stretches.{SharesEnds}
use Rattle.vr_ruin.specs.declared.placing.Placing.{Placing}
use Rattle.vr_ruin.specs.declared.placing.Placing.TheVariants.{One, Two}
use Rattle.vr_ruin.specs.Known.{shared_of}
use Rattle.vr_ruin.specs.Placings.{item_in, placed, AreWithin, MayHold}
use Rattle.vr_ruin.proofs.AskLemmas.{distinct_after, visits_after}
use Rattle.vr_ruin.proofs.TimelessLemmas.{some-placed}

taken : (list : List ℕ) (u t x : ℕ) → u ≤ t → t ≤ length list → take u list ≡ take u (insert list t x)
taken list zero t x low le = refl
taken list (suc u) zero x low le = absurd (omega (arith, low))
taken [] (suc u) (suc t) x low le = absurd (omega (arith, le))
taken (y ∷ ys) (suc u) (suc t) x low le = ap (λ l. y ∷ l) (taken ys u t x (omega (arith, low)) (omega (arith, le)))

-- what stands after a place stands one place later if a node was put in there or before
dropped : (list : List ℕ) (s t x : ℕ) → s ≤ t → t ≤ length list → drop t list ≡ drop (suc t) (insert list s x)
dropped list zero t x order le = refl
dropped list (suc s) zero x order le = absurd (omega (arith, order))
dropped [] (suc s) (suc t) x order le = absurd (omega (arith, le))
dropped (y ∷ ys) (suc s) (suc t) x order le = dropped ys s t x (omega (arith, order)) (omega (arith, le))

-- a pair put in is its delivery put into the list with the pickup
pair_is : (pair : Pair) (list : List ℕ) (s t : ℕ) → s ≤ t → t ≤ length list → with_pair pair s t list ≡ insert (insert list s pair.pickup) (suc t) pair.delivery
pair_is pair list zero t order le =
    let e : t - 0 ≡ t = omega arith in
    ap (λ n. pair.pickup ∷ (take n list ++ (pair.delivery ∷ drop t list))) e
pair_is pair list (suc s) zero order le = absurd (omega (arith, order))
pair_is pair [] (suc s) (suc t) order le = absurd (omega (arith, le))
pair_is pair (y ∷ ys) (suc s) (suc t) order le =
    let e : suc t - suc s ≡ t - s = omega arith in
    ap (λ n. y ∷ (take s ys ++ (pair.pickup ∷ (take n (drop s ys) ++ (pair.delivery ∷ drop t ys))))) e
    ∙ ap (λ l. y ∷ l) (pair_is pair ys s t (omega (arith, order)) (omega (arith, le)))

-- a visit before place t
visit_shares : (list : List ℕ) (t x : ℕ) → t ≤ length list → SharesEnds list (insert list t x) (record { front = t; back = length list - t })
visit_shares list t x le =
    let n = length-insert list t x le in
    let old : length list - (length list - t) ≡ t = omega (arith, le) in
    let new : length (insert list t x) - (length list - t) ≡ suc t = omega (arith, le, n) in
    record {
      front = record { same = taken list t t x (omega arith) le; within_old = le; within_new = omega (arith, n, le) };
      back = record {
        same = ap (λ k. drop k list) old ∙ dropped list t t x (omega arith) le ∙ sym (ap (λ k. drop k (insert list t x)) new);
        within_old = omega arith;
        within_new = omega (arith, n);
      };
      apart = omega (arith, n, le);
    }

-- a pair before places s and t
pair_shares : (pair : Pair) (list : List ℕ) (s t : ℕ) → s ≤ t → t ≤ length list
    → SharesEnds list (with_pair pair s t list) (record { front = s; back = length list - t })
pair_shares pair list s t order le =
    let half : List ℕ = insert list s pair.pickup in
    let n = length-insert list s pair.pickup (omega (arith, order, le)) in
    let m = length-insert half (suc t) pair.delivery (omega (arith, n, le)) in
    let old : length list - (length list - t) ≡ t = omega (arith, le) in
    let new : length (insert half (suc t) pair.delivery) - (length list - t) ≡ suc (suc t) = omega (arith, le, n, m) in
    subst (λ new. SharesEnds list new (record { front = s; back = length list - t })) (sym (pair_is pair list s t order le)) (record {
      front = record {
        same = taken list s s pair.pickup (omega arith) (omega (arith, order, le))
            ∙ taken half s (suc t) pair.delivery (omega (arith, order)) (omega (arith, n, le));
        within_old = omega (arith, order, le);
        within_new = omega (arith, n, m, order, le);
      };
      back = record {
        same = ap (λ k. drop k list) old ∙ dropped list s t pair.pickup order le
            ∙ dropped half (suc t) (suc t) pair.delivery (omega arith) (omega (arith, n, le))
            ∙ sym (ap (λ k. drop k (insert half (suc t) pair.delivery)) new);
        within_old = omega arith;
        within_new = omega (arith, n, m);
      };
      apart = omega (arith, n, m, order, le);
    })

-- an item at its places
pub placed-shares : (list : List ℕ) (placing : Placing) → AreWithin list placing → SharesEnds list (placed list placing) (shared_of (length list) placing)
placed-shares list (One n t) within = visit_shares list t n within
placed-shares list (Two p d s t) within = pair_shares (record { pickup = p; delivery = d }) list s t within.0 within.1

-- the list with the item is that of a used vehicle
pub placed-used : (model : Model) (list : List ℕ) (placing : Placing) → AreWithin list placing
    → MayHold model list (item_in placing) → IsUsed model (placed list placing)
placed-used model list placing within may = record {
  some = some-placed list placing;
  tour = record { visits = visits_after model list placing within may; distinct = distinct_after model list placing within may };
}
