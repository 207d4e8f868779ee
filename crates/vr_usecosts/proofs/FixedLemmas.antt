-- Fixed costs as a sum over all vehicles.
use Rattle.std.proofs.Common.{◌≡◌, ◌∙◌, ℕ, Bool, cond, List, [], ◌∷◌, true, false, length, refl, arith}
use Rattle.std.specs.Prelude.{IsTrue, ℤ, nat_lt, not, pos}
use Rattle.vr_model.specs.declared.records.Model.{Model}
use Rattle.vr_model.specs.deciding.Testing.{eq_of_tests}
use Rattle.vr_model.specs.tables.Numbers.{below, is_same_number}
use Rattle.vr_model.specs.tables.Tables.{vehicle_at, no_vehicle}
use Rattle.vr_model.specs.routes.Routes.{route, is_empty}
use Rattle.vr_model.specs.routes.Costs.{fixed_part}
use Rattle.vr_model.proofs.tables.Bounds.{none_at}
use Rattle.vr_model.proofs.tables.Totals.{sum_nothing, total_by-failing}
use Rattle.vr_parts.specs.Sums.{sum_over_routes}
use Rattle.vr_usecosts.specs.Fixed.{fixed_with, has_fixed_cost, is_some_fixed}

-- a list that is not empty has some nodes
pub some-nodes : (list : List ℕ) → not (is_empty list) ≡ nat_lt 0 (length list)
some-nodes [] = refl
some-nodes (x ∷ xs) = Prim.grind arith

pub fixed-over : (model : Model) (lists : List (List ℕ)) → fixed_part model lists ≡ sum_over_routes (fixed_with model) lists
fixed-over model lists = total_by-failing (λ v. (vehicle_at model v).fixed) (λ v. is_empty (route lists v)) (below (length lists))

-- where no vehicle has a fixed cost, no lists have one
pub none-fixed : (model : Model) → is_some_fixed model ≡ false → (lists : List (List ℕ)) → length lists ≡ length model.vehicles → fixed_part model lists ≡ pos 0
none-fixed model none lists many = fixed-over model lists ∙ sum_nothing (λ v. fixed_with model v (route lists v)) 0 (length lists)
    (λ v _ low. by (is_empty (route lists v))
    (zero_of (vehicle_at model v).fixed (none_at has_fixed_cost model.vehicles v no_vehicle none (omega (arith, low, many)))))
  where
    off : (b : Bool) → not b ≡ false → IsTrue b
    off true e = refl
    off false e = Prim.cc

    zero_of : (x : ℤ) → not (is_same_number x (pos 0)) ≡ false → x ≡ pos 0
    zero_of x e = eq_of_tests x (pos 0) (off (is_same_number x (pos 0)) e)

    by : {x : ℤ} (b : Bool) → x ≡ pos 0 → cond b (pos 0) x ≡ pos 0
    by true e = refl
    by false e = e
