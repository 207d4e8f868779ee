-- Sums along lists, taken apart.
use Rattle.std.proofs.Common.{◌≡◌, ℕ, zero, suc, ◌<◌, ◌≤◌, List, [], ◌∷◌, length, reverse, take, refl, ap, arith}
use Rattle.std.specs.Prelude.{ℤ, ◌+ℤ◌, ◌≤ℤ◌, slice_index_or}
use Rattle.std.proofs.lemmas.Int.{ints}
use Rattle.std.proofs.lemmas.List.{reverse-append}
use Rattle.vr_model.specs.tables.Numbers.{total_by}
use Rattle.vr_model.proofs.tables.Totals.{total_by-append}
use Rattle.vr_balance.specs.Sums.{IsUpTo}

-- one node more
pub total-next : (f : ℕ → ℤ) (xs : List ℕ) (k : ℕ) → k < length xs → total_by f (take (suc k) xs) ≡ total_by f (take k xs) +ℤ f (slice_index_or xs k 0)
total-next f [] k low = absurd (omega (arith, low))
total-next f (x ∷ xs) zero low = omega (arith, ints)
total-next f (x ∷ xs) (suc k) low = let i = total-next f xs k (omega (arith, low)) in omega (arith, ints, i)

-- the direction does not matter
pub total-reversed : (f : ℕ → ℤ) (xs : List ℕ) → total_by f (reverse xs) ≡ total_by f xs
total-reversed f [] = refl
total-reversed f (x ∷ xs) =
    let r = ap (total_by f) (reverse-append (x ∷ []) xs) in
    let a = total_by-append f (reverse xs) (x ∷ []) in
    let i = total-reversed f xs in
    omega (arith, ints, r, a, i)

-- ---- bounds

-- each value is 0 or more, and at most 2 ^ 40
pub record AreSmall (f : ℕ → ℤ) : Type 0 where
  pub each : (x : ℕ) → IsUpTo 1 (f x)

pub total-bounds : (f : ℕ → ℤ) → AreSmall f → (xs : List ℕ) → IsUpTo (length xs) (total_by f xs)
total-bounds f small [] = record { low = omega (arith, ints); high = omega (arith, ints) }
total-bounds f small (x ∷ xs) =
    let i = total-bounds f small xs in
    let h = small.each x in
    record { low = omega (arith, ints, i.low, h.low); high = omega (arith, ints, i.high, h.high) }

pub take-few : (k : ℕ) (xs : List ℕ) → length (take k xs) ≤ length xs
take-few zero xs = omega arith
take-few (suc k) [] = omega arith
take-few (suc k) (x ∷ xs) = let i = take-few k xs in omega (arith, i)

pub up-to-few : (f : ℕ → ℤ) → AreSmall f → (xs : List ℕ) → length xs ≤ 1000 → IsUpTo 1000 (total_by f xs)
up-to-few f small xs few = let b = total-bounds f small xs in record { low = b.low; high = omega (arith, ints, few, b.high) }

pub so-far : (f : ℕ → ℤ) → AreSmall f → (xs : List ℕ) → length xs ≤ 1000 → (k : ℕ) → IsUpTo 1000 (total_by f (take k xs))
so-far f small xs few k = up-to-few f small (take k xs) (let n = take-few k xs in omega (arith, n, few))

-- what is taken so far is no more than what is taken in all
pub total-grows : (f : ℕ → ℤ) → AreSmall f → (xs : List ℕ) (k : ℕ) → total_by f (take k xs) ≤ℤ total_by f xs
total-grows f small xs zero = (total-bounds f small xs).low
total-grows f small [] (suc k) = omega (arith, ints)
total-grows f small (x ∷ xs) (suc k) = let i = total-grows f small xs k in omega (arith, ints, i)
