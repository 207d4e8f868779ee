-- Numbers of 64 bits that are read as they are.
use Rattle.std.proofs.Common.{◌≡◌, ◌∙◌, ◌^◌, ℤ, pos, neg_ℤ, ◌+ℤ◌, SFits, to_z, of_z, w64, refl, ap₂, arith}
use Rattle.std.specs.Int.{int_max, int_min}
use Rattle.std.proofs.lemmas.Int.{ints}
use Rattle.vr_model.specs.tables.Numbers.{horizon}
use Rattle.vr_model.specs.tables.WellFormed.{IsIn}
use Rattle.vr_span.specs.Pieces.{IsNearNumber}
use Rattle.vr_span.proofs.PieceLemmas.{max_left, min_left, min_right, of_max, to_min}

-- a number that is far within 64 bits
abbrev pub IsWide : ℤ → Type 0
IsWide x = IsIn (neg_ℤ (pos (2 ^ 60))) (pos (2 ^ 60)) x

pub near_is_wide : (x : ℤ) → IsNearNumber x → IsWide x
near_is_wide x near = record { at_least = omega (arith, ints, near); at_most = omega (arith, ints, near) }

pub as_read : (r x : ℤ) → r ≡ x → IsWide x → to_z w64 (of_z w64 r) ≡ x
as_read r x is wide = omega (arith, ints, is, wide)

pub near_max : (a b : ℤ) → IsNearNumber a → IsNearNumber b → IsNearNumber (int_max a b)
near_max a b x y = let l = max_left a b in record { at_least = omega (arith, ints, l, x); at_most = of_max _ a b x.at_most y.at_most }

pub near_min : (a b : ℤ) → IsNearNumber a → IsNearNumber b → IsNearNumber (int_min a b)
near_min a b x y = let l = min_left a b in record { at_least = to_min _ a b x.at_least y.at_least; at_most = omega (arith, ints, l, x) }

pub near_read : (x : ℤ) → IsNearNumber x → to_z w64 (of_z w64 x) ≡ x
near_read x near = as_read x x refl (near_is_wide x near)

-- a number behind an arc
pub moved_read : (x transit : ℤ) → IsNearNumber x → IsIn (neg_ℤ (pos (2 ^ 31))) (pos (2 ^ 31)) transit
    → to_z w64 (of_z w64 (to_z w64 (of_z w64 x) +ℤ to_z w64 (of_z w64 transit))) ≡ x +ℤ transit
moved_read x transit near t = omega (arith, ints, near, t)

-- the last cumul before the next piece with the slack
pub least_read : (m hi slack until : ℤ)
    → m ≡ int_min (to_z w64 (of_z w64 (to_z w64 (of_z w64 hi) +ℤ to_z w64 (of_z w64 slack)))) (to_z w64 (of_z w64 until))
    → IsNearNumber hi → IsIn (pos 0) horizon slack → IsNearNumber until
    → m ≡ int_min (hi +ℤ slack) until
least_read m hi slack until is h s u =
    let sum : to_z w64 (of_z w64 (to_z w64 (of_z w64 hi) +ℤ to_z w64 (of_z w64 slack))) ≡ hi +ℤ slack = omega (arith, ints, h, s) in
    is ∙ ap₂ int_min sum (near_read until u)

-- the end of a piece behind an arc: it fits, and is read as it is
pub end_fits : (m hi slack until transit : ℤ) → m ≡ int_min (hi +ℤ slack) until → IsNearNumber hi
    → IsIn (pos 0) horizon slack → IsNearNumber until → IsIn (neg_ℤ (pos (2 ^ 31))) (pos (2 ^ 31)) transit
    → SFits w64 (to_z w64 (of_z w64 m) +ℤ to_z w64 (of_z w64 transit))
end_fits m hi slack until transit is h s u t =
    let low = to_min (neg_ℤ (pos (2 ^ 60))) (hi +ℤ slack) until (omega (arith, ints, h, s)) (omega (arith, ints, u)) in
    let high = min_right (hi +ℤ slack) until in
    let read = as_read m (int_min (hi +ℤ slack) until) is (record { at_least = low; at_most = omega (arith, ints, high, u) }) in
    omega (arith, ints, read, low, high, u, t)

pub end_read : (m hi slack until transit : ℤ) → m ≡ int_min (hi +ℤ slack) until → IsNearNumber hi
    → IsIn (pos 0) horizon slack → IsNearNumber until → IsIn (neg_ℤ (pos (2 ^ 31))) (pos (2 ^ 31)) transit
    → to_z w64 (of_z w64 (to_z w64 (of_z w64 m) +ℤ to_z w64 (of_z w64 transit))) ≡ int_min (hi +ℤ slack) until +ℤ transit
end_read m hi slack until transit is h s u t =
    let low = to_min (neg_ℤ (pos (2 ^ 60))) (hi +ℤ slack) until (omega (arith, ints, h, s)) (omega (arith, ints, u)) in
    let high = min_right (hi +ℤ slack) until in
    let read = as_read m (int_min (hi +ℤ slack) until) is (record { at_least = low; at_most = omega (arith, ints, high, u) }) in
    omega (arith, ints, read, low, high, u, t)
