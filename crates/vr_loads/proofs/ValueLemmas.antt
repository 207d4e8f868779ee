-- Sums of values, and how they are read.
use Rattle.std.proofs.Common.{◌≡◌, ℕ, ◌+◌, ◌<◌, ◌≤◌, List, [], ◌∷◌, length, take, ap, refl, arith, add-one, to_z, of_z, w64}
use Rattle.std.specs.Prelude.{ℤ, ◌+ℤ◌, slice_index_or}
use Rattle.std.proofs.lemmas.Int.{ints}
use Rattle.vr_model.specs.tables.Numbers.{total_by}
use Rattle.vr_balance.specs.Sums.{path_sum}
use Rattle.vr_loads.specs.Kept.{at_target}
use Rattle.vr_loads.proofs.Totals.{AreSmall, total-next, so-far}

-- what is taken along nodes, as a sum along arcs
pub taken-total : (f : ℕ → ℤ) (at : ℕ) (xs : List ℕ) → path_sum (at_target f) at xs ≡ total_by f xs
taken-total f at [] = refl
taken-total f at (x ∷ xs) = ap (λ s. f x +ℤ s) (taken-total f x xs)

-- one value more
next-sum : (f : ℕ → ℤ) (list : List ℕ) (k : ℕ) (sum more : ℤ) → k < length list → sum ≡ total_by f (take k list) → more ≡ f (slice_index_or list k 0)
    → sum +ℤ more ≡ total_by f (take (k + 1) list)
next-sum f list k sum more low is next =
    let t = total-next f list k low in
    let e = ap (λ n. total_by f (take n list)) (add-one k) in
    omega (arith, ints, is, next, t, e)

module _ (f : ℕ → ℤ) (small : AreSmall f) (list : List ℕ) (few : length list ≤ 1000) (k : ℕ) (low : k < length list)
    (sum more : ℤ) (is : sum ≡ total_by f (take k list)) (next : more ≡ f (slice_index_or list k 0)) where
  -- and how it is read
  pub next-read : to_z w64 (of_z w64 (sum +ℤ to_z w64 (of_z w64 more))) ≡ total_by f (take (k + 1) list)
  next-read =
      let u = so-far f small list few k in
      let h = small.each (slice_index_or list k 0) in
      let n = next-sum f list k sum more low is next in
      omega (arith, ints, u.low, u.high, h.low, h.high, is, next, n)

-- a value is read as it is
pub value-read : (f : ℕ → ℤ) → AreSmall f → (value : ℤ) (x : ℕ) → value ≡ f x → to_z w64 (of_z w64 value) ≡ f x
value-read f small value x is = let h = small.each x in omega (arith, ints, is, h.low, h.high)
