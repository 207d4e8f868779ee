-- What is kept of committed lists is written over: by the parts of a change in turn, and entry by entry.
use Rattle.std.proofs.Common.{◌≡◌, ◌∙◌, ◌<◌, ◌≤◌, ◌+◌, inl, inr, ℕ, List, length, length-set, add-one, ap, ap₂, sym, subst, arith}
use Rattle.std.specs.Prelude.{slice_index_or, slice_set}
use Rattle.std.proofs.lemmas.Bool.{cases_lt}
use Rattle.std.proofs.lemmas.List.{get_or-set_other, get_or-set_same}
use Rattle.vr_model.specs.moves.Moves.{with_route}
use Rattle.vr_routes.specs.Changes.{AreParts}
use Rattle.vr_routes.specs.Pieces.{ListAfter, joined, no_part, part_at}
use Rattle.vr_parts.proofs.SumLemmas.{upto, upto-many, upto-next}

-- the list of a part is put in
pub upto-put : (lists : List (List ℕ)) (parts : List ListAfter) (k : ℕ) → k < length parts
    → {v : ℕ} {list : List ℕ} → v ≡ (part_at parts k).vehicle → list ≡ joined lists (part_at parts k).pieces
    → with_route (upto lists parts k) v list ≡ upto lists parts (k + 1)
upto-put lists parts k low vehicle is = ap₂ (with_route (upto lists parts k)) vehicle is ∙ sym (ap (upto lists parts) (add-one k) ∙ upto-next lists parts k low)

-- its vehicle has one of these lists
pub upto-within : (lists : List (List ℕ)) (parts : List ListAfter) → AreParts lists parts → (k : ℕ)
    → k < length parts → {v : ℕ} → v ≡ (part_at parts k).vehicle → v < length (upto lists parts k)
upto-within lists parts are k low vehicle =
    let known = are.each_vehicle k no_part low in
    let many = upto-many lists parts k in
    omega (arith, vehicle, known, many)

-- entries that are written over in turn: this is so of the first n of them now, and that of those that are left
pub record AreWrittenTo {A : Type 0} (now before : ℕ → A → Type 0) (n : ℕ) (xs : List A) : Type 0 where
  pub done : (k : ℕ) (other : A) → k < n → now k (slice_index_or xs k other)
  pub left : (k : ℕ) (other : A) → n ≤ k → k < length xs → before k (slice_index_or xs k other)

-- one entry more
pub written-more : {A : Type 0} (now before : ℕ → A → Type 0) (n : ℕ) (xs : List A) → AreWrittenTo now before n xs
    → n < length xs → (x : A) → now n x → AreWrittenTo now before (n + 1) (slice_set xs n x)
written-more now before n xs h inside x new = record {
  done = λ k other low. elim (cases_lt k n) [
    | inl less ↦ subst (now k) (sym (get_or-set_other xs n k x other (λ e. absurd (omega (arith, e, less))))) (h.done k other less)
    | inr high ↦ (let here : k ≡ n = omega (arith, low, high) in
        subst (λ j. now j (slice_index_or (slice_set xs n x) j other)) (sym here) (subst (now n) (sym (get_or-set_same xs n x other inside)) new))
  ];
  left = λ k other high low.
      let many = length-set xs n x in
      subst (before k) (sym (get_or-set_other xs n k x other (λ e. absurd (omega (arith, e, high)))))
      (h.left k other (omega (arith, high)) (omega (arith, low, many)));
}
