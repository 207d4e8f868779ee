-- Numbers of 64 and of 128 bits are read as they are.
use Rattle.std.proofs.Common.{Bool, true, false, nat_eq, refl, sym, ap, ◌∙◌, ◌≡◌, ◌<◌, ℤ, arith, to_z, of_z, w64}
use Rattle.std.specs.Int.{w128}
use Rattle.std.specs.Int.Signed.{mag}
use Rattle.std.proofs.lemmas.Int.{ints}
use Rattle.std.proofs.lemmas.Bool.{eqb-true}
use Rattle.vr_model.specs.tables.Numbers.{is_same_number}
use Rattle.vr_model.proofs.tables.Tests.{clash, fails}
use Rattle.vr_model.specs.deciding.Testing.{test_of_eq, tests_of_eq, eq_of_tests}

abbrev pub read64 : ℤ → ℤ
read64 z = to_z w64 (of_z w64 z)

abbrev pub read128 : ℤ → ℤ
read128 z = to_z w128 (of_z w128 z)

pub narrow : (z : ℤ) → mag z < 9223372036854775808 → read64 z ≡ z
narrow z h = omega (arith, ints, h)

pub wide : (z : ℤ) → mag z < 170141183460469231731687303715884105728 → read128 z ≡ z
wide z h = omega (arith, ints, h)

-- two numbers of 128 bits are compared by their bits
pub same_bits : (x y : ℤ) → read128 x ≡ x → read128 y ≡ y → nat_eq (of_z w128 x) (of_z w128 y) ≡ is_same_number x y
same_bits x y fits also = go (nat_eq (of_z w128 x) (of_z w128 y)) refl
  where
    go : (b : Bool) → nat_eq (of_z w128 x) (of_z w128 y) ≡ b → b ≡ is_same_number x y
    go true e = sym (tests_of_eq x y (sym fits ∙ ap (to_z w128) (eqb-true (of_z w128 x) (of_z w128 y) e) ∙ also))
    go false e = sym (fails (is_same_number x y) (λ t. clash (nat_eq (of_z w128 x) (of_z w128 y)) (test_of_eq _ _ (ap (of_z w128) (eq_of_tests x y t))) e))
