-- The rounded root of a number, and the one number that is its root rounded down.
use Rattle.std.proofs.Common.{◌≡◌, ◌⊎◌, ℕ, zero, suc, ◌+◌, ◌*◌, ◌<◌, ◌≤◌, Bool, true, false, inl, inr, refl, ap, arith}
use Rattle.std.specs.Prelude.{nat_le, if◌then◌else◌}
use Rattle.std.proofs.lemmas.Bool.{cases_order, leb-true, leb-false}
use Rattle.std.proofs.lemmas.Nat.{mul-le}
use Rattle.vr_tsplib.specs.Roots.{IsFloorRoot, floor_root, rounded, nearest}

-- there is one
pub same_root : (n r s : ℕ) → IsFloorRoot n r → IsFloorRoot n s → r ≡ s
same_root n r s h k = by (cases_order r s)
  where
    by : (r ≡ s) ⊎ ((r < s) ⊎ (s < r)) → r ≡ s
    by (inl e) = e
    by (inr (inl low)) =
        let p : (r + 1) * (r + 1) ≤ s * s = mul-le (r + 1) (r + 1) s s (omega (arith, low)) (omega (arith, low)) in
        absurd (omega (arith, p, h.next_high, k.square_low))
    by (inr (inr low)) =
        let p : (s + 1) * (s + 1) ≤ r * r = mul-le (s + 1) (s + 1) r r (omega (arith, low)) (omega (arith, low)) in
        absurd (omega (arith, p, k.next_high, h.square_low))

wider : (m : ℕ) → m * m + m ≤ (m + 1) * (m + 1)
wider m = omega arith

-- the root of the next number
next_root : (n r : ℕ) → IsFloorRoot n r → (b : Bool) → nat_le ((r + 1) * (r + 1)) (suc n) ≡ b → IsFloorRoot (suc n) (if b then r + 1 else r)
next_root n r h true e = record { square_low = leb-true _ _ e; next_high = omega (arith, wider (r + 1), h.next_high) }
next_root n r h false e = record { square_low = omega (arith, h.square_low); next_high = leb-false _ _ e }

pub floor_root_is : (n : ℕ) → IsFloorRoot n (floor_root n)
unfolding floor_root
floor_root_is zero = record { square_low = omega arith; next_high = omega arith }
floor_root_is (suc n) = next_root n (floor_root n) (floor_root_is n) (nat_le ((floor_root n + 1) * (floor_root n + 1)) (suc n)) refl

pub rounded_is_nearest : (n r : ℕ) → IsFloorRoot n r → rounded n r ≡ nearest n
unfolding nearest
rounded_is_nearest n r h = ap (rounded n) (same_root n r (floor_root n) h (floor_root_is n))

pub rounded_same : (n r s : ℕ) → IsFloorRoot n r → IsFloorRoot n s → rounded n r ≡ rounded n s
rounded_same n r s h k = ap (rounded n) (same_root n r s h k)
