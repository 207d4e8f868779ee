-- Bounds of products.
use Rattle.std.proofs.Common.{◌≡◌, ℕ, suc, ◌*◌, ◌≤◌, to_z, of_z, w64, arith}
use Rattle.std.specs.Prelude.{ℤ, pos, negsuc, ◌*ℤ◌, ◌≤ℤ◌}
use Rattle.std.proofs.lemmas.Int.{ints, int_max_is}
use Rattle.std.specs.Int.{int_max}
use Rattle.std.proofs.Math.Nat.{mul-le-mul_right}
use Rattle.vr_model.specs.tables.Numbers.{horizon}
use Rattle.vr_model.specs.tables.WellFormed.{IsIn}
use Rattle.vr_plan.specs.Bounds.{IsAround}

-- a coefficient times a number
pub mul-around : (a x : ℤ) (most : ℕ) → pos 0 ≤ℤ a → a ≤ℤ pos 10000 → IsAround most x → IsAround (10000 * most) (a *ℤ x)
mul-around (pos m) (pos n) most low high r =
    let few : m ≤ 10000 = omega (arith, ints, high) in
    let p : m * n ≤ 10000 * n = mul-le-mul_right n few in
    record { low = omega (arith, ints, p); high = omega (arith, ints, p, r.high) }
mul-around (pos m) (negsuc n) most low high r =
    let few : m ≤ 10000 = omega (arith, ints, high) in
    let p : m * suc n ≤ 10000 * suc n = mul-le-mul_right (suc n) few in
    record { low = omega (arith, ints, p, r.low); high = omega (arith, ints, p, r.low) }
mul-around (negsuc m) x most low high r = absurd (omega (arith, ints, low))

-- a number is read as it is
pub read-around : (x : ℤ) (most : ℕ) → IsAround most x → most ≤ 9000000000000000000 → to_z w64 (of_z w64 x) ≡ x
read-around x most h few = omega (arith, ints, h.low, h.high, few)

pub max-around : (y : ℤ) (most : ℕ) → IsAround most y → IsAround most (int_max (pos 0) y)
max-around y most h = let m = int_max_is (pos 0) y in record { low = omega (arith, ints, m, h.low, h.high); high = omega (arith, ints, m, h.low, h.high) }

pub read-cumul : (x : ℤ) → IsIn (pos 0) horizon x → to_z w64 (of_z w64 x) ≡ x
read-cumul x h = omega (arith, ints, h.at_least, h.at_most)

pub mul-sign : (a x : ℤ) → pos 0 ≤ℤ a → pos 0 ≤ℤ x → pos 0 ≤ℤ (a *ℤ x)
mul-sign (pos m) (pos n) low high = omega (arith, ints)
mul-sign (pos m) (negsuc n) low high = absurd (omega (arith, ints, high))
mul-sign (negsuc m) x low high = absurd (omega (arith, ints, low))
