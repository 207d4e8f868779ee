-- Differences of numbers of 64 bits, read as they are.
use Rattle.std.proofs.Common.{◌≡◌, ◌∙◌, refl, sym, ap, ap₂, arith, to_z, of_z, w64}
use Rattle.std.specs.Prelude.{ℤ, pos, ◌-ℤ◌}
use Rattle.std.specs.Int.{int_max}
use Rattle.std.proofs.lemmas.Int.{ints, int_max_is}
use Rattle.vr_model.specs.tables.Numbers.{horizon}
use Rattle.vr_model.specs.tables.WellFormed.{IsIn}
use Rattle.vr_plan.specs.Bounds.{IsAround}
use Rattle.vr_plan.proofs.BoundLemmas.{read-around, read-cumul}

pub cumul-around : (x : ℤ) → IsIn (pos 0) horizon x → IsAround 100000000000 x
cumul-around x h = record { low = omega (arith, ints, h.at_least); high = omega (arith, ints, h.at_most) }

-- a number of cumuls and arcs less a cumul or an arc
pub less-around : (x y : ℤ) → IsAround 400000000000 x → IsAround 100000000000 y → IsAround 500000000000 (x -ℤ y)
less-around x y hx hy = record { low = omega (arith, ints, hx.low, hy.high); high = omega (arith, ints, hx.high, hy.low) }

pub wider : (x : ℤ) → IsAround 100000000000 x → IsAround 400000000000 x
wider x h = record { low = omega (arith, ints, h.low); high = omega (arith, ints, h.high) }

-- a cumul less an arc
pub less-arc : (x y : ℤ) → IsAround 100000000000 x → IsAround 100000000000 y → IsAround 400000000000 (x -ℤ y)
less-arc x y hx hy = record { low = omega (arith, ints, hx.low, hy.high); high = omega (arith, ints, hx.high, hy.low) }

-- a difference of two that are read is read as it is
read-less : (x y : ℤ) → IsAround 400000000000 x → IsAround 100000000000 y → to_z w64 (of_z w64 (to_z w64 (of_z w64 x) -ℤ to_z w64 (of_z w64 y))) ≡ x -ℤ y
read-less x y hx hy =
    let rx = read-around x 400000000000 hx (omega arith) in
    let ry = read-around y 100000000000 hy (omega arith) in
    ap₂ (λ (a b : ℤ). to_z w64 (of_z w64 (a -ℤ b))) rx ry ∙ read-around (x -ℤ y) 500000000000 (less-around x y hx hy) (omega arith)

-- a cumul less an arc and a slack is read as it is
pub read-floor : (f t s : ℤ) → IsAround 100000000000 f → IsAround 100000000000 t → IsAround 100000000000 s
    → to_z w64 (of_z w64 (to_z w64 (of_z w64 (to_z w64 (of_z w64 f) -ℤ to_z w64 (of_z w64 t))) -ℤ to_z w64 (of_z w64 s))) ≡ (f -ℤ t) -ℤ s
read-floor f t s hf ht hs =
    let inner = read-less f t (wider f hf) ht in
    let again = read-around (f -ℤ t) 400000000000 (less-arc f t hf ht) (omega arith) in
    ap (λ (z : ℤ). to_z w64 (of_z w64 (z -ℤ to_z w64 (of_z w64 s)))) (inner ∙ sym again) ∙ read-less (f -ℤ t) s (less-arc f t hf ht) hs

-- the greater of such a floor and a cumul is near
pub floor-around : (f t s lo x m : ℤ) → x ≡ m → IsAround 100000000000 f → IsAround 100000000000 t
    → IsAround 100000000000 s → IsAround 100000000000 lo → m ≡ int_max ((f -ℤ t) -ℤ s) lo → IsAround 500000000000 x
floor-around f t s lo x m same hf ht hs hlo is =
    let d = less-around (f -ℤ t) s (less-arc f t hf ht) hs in
    let i = int_max_is ((f -ℤ t) -ℤ s) lo in
    record {
      low = omega (arith, ints, same, is, i, d.low, d.high, hlo.low, hlo.high);
      high = omega (arith, ints, same, is, i, d.low, d.high, hlo.low, hlo.high);
    }

-- what is read of a floor
pub record IsFloorRead (f t s lo it : ℤ) : Type 0 where
  pub is : it ≡ int_max ((f -ℤ t) -ℤ s) lo
  pub read : to_z w64 (of_z w64 it) ≡ it

pub floor-read : (f t s lo it : ℤ) → IsIn (pos 0) horizon f → IsAround 100000000000 t → IsIn (pos 0) horizon s → IsIn (pos 0) horizon lo
    → it
    ≡ int_max (to_z w64 (of_z w64 (to_z w64 (of_z w64 (to_z w64 (of_z w64 f) -ℤ to_z w64 (of_z w64 t))) -ℤ to_z w64 (of_z w64 s)))) (to_z w64 (of_z w64 lo))
    → IsFloorRead f t s lo it
floor-read f t s lo it f_in near_t s_in lo_in told =
    let near_f = cumul-around f f_in in
    let near_s = cumul-around s s_in in
    let near_lo = cumul-around lo lo_in in
    let is = told ∙ ap₂ (λ (x y : ℤ). int_max x y) (read-floor f t s near_f near_t near_s) (read-cumul lo lo_in) in
    record { is = is; read = read-around it 500000000000 (floor-around f t s lo it it refl near_f near_t near_s near_lo is) (omega arith) }
