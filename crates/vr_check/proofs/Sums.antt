-- A coefficient times a number, and its bounds.
use Rattle.std.proofs.Common.{◌≡◌, ℕ, zero, suc, ◌*◌, ◌^◌, arith}
use Rattle.std.specs.Prelude.{ℤ, pos, negsuc, ◌+ℤ◌, ◌*ℤ◌}
use Rattle.std.proofs.Math.IntN.{zero-*ℤ, suc_ℤ-*ℤ}
use Rattle.std.proofs.lemmas.Int.{ints}
use Rattle.vr_model.specs.tables.Limits.{greatest_cost}
use Rattle.vr_model.specs.tables.WellFormed.{IsIn}
use Rattle.vr_check.specs.Terms.{IsAround}

-- n times a number that lies within 2^66
scaled : (n : ℕ) (b : ℤ) → IsAround (2 ^ 66) b → IsAround (2 ^ 66 * n) (pos n *ℤ b)
scaled zero b h = let e : pos 0 *ℤ b ≡ pos 0 = zero-*ℤ b in record { at_least = omega (arith, ints, e); at_most = omega (arith, ints, e) }
scaled (suc n) b h =
    let e : pos (suc n) *ℤ b ≡ (pos n *ℤ b) +ℤ b = suc_ℤ-*ℤ (pos n) b in
    let r = scaled n b h in
    record { at_least = omega (arith, ints, e, r.at_least, h.at_least, h.at_most); at_most = omega (arith, ints, e, r.at_most, h.at_least, h.at_most) }

-- a coefficient of up to 2^40 times a number that lies within 2^66
pub product_within : (a b : ℤ) → IsIn (pos 0) greatest_cost a → IsAround (2 ^ 66) b → IsAround (2 ^ 106) (a *ℤ b)
product_within (pos n) b range h =
    let r = scaled n b h in
    record { at_least = omega (arith, ints, r.at_least, range.at_most); at_most = omega (arith, ints, r.at_most, range.at_most) }
product_within (negsuc n) b range h = absurd (omega (arith, ints, range.at_least))
