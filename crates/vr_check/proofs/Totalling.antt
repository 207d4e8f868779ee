-- Sums over routes and plans that are printed, beside those of an assignment.
use Rattle.std.proofs.Common.{◌≡◌, ◌∙◌, ◌++◌, ℕ, suc, ◌+◌, ◌*◌, ◌<◌, List, [], ◌∷◌, cond, length, ap, arith}
use Rattle.std.specs.Prelude.{ℤ, pos, ◌+ℤ◌}
use Rattle.std.proofs.Math.Nat.{mul-suc}
use Rattle.std.proofs.lemmas.Int.{ints}
use Rattle.vr_model.specs.declared.records.Model.{Model}
use Rattle.vr_model.specs.declared.records.Group.{Group}
use Rattle.vr_model.specs.tables.Numbers.{total_by, below}
use Rattle.vr_model.specs.tables.Tables.{vehicle_at}
use Rattle.vr_model.specs.routes.Routes.{route, route_cost, is_empty}
use Rattle.vr_model.specs.routes.Costs.{fixed_part, penalty_for}
use Rattle.vr_model.specs.routes.Rules.{active_in}
use Rattle.vr_model.proofs.tables.Totals.{total_by-append, total_by-failing, total_by-more}
use Rattle.vr_check.specs.Terms.{IsAround}
use Rattle.vr_check.proofs.Widths.{read128}

-- a sum of what f gives of each number below n, where each lies within `width` of 0
pub record IsSum (f : ℕ → ℤ) (width n : ℕ) (total : ℤ) : Type 0 where
  pub sum : total ≡ total_by f (below n)
  pub range : IsAround (width * n) total

-- one term more, where the sum has room in 128 bits
pub one_more : (f : ℕ → ℤ) (width n : ℕ) {total : ℤ} (term : ℤ) → IsSum f width n total → term ≡ f n → IsAround width term
    → width * (n + 1) < 170141183460469231731687303715884105728 → IsSum f width (n + 1) (read128 (total +ℤ read128 term))
one_more f width n {total} term so_far value range room =
    let more = total_by-more f n in
    let next : n + 1 ≡ suc n = omega arith in
    let wider : width * (n + 1) ≡ width * n + width = ap (λ m. width * m) next ∙ mul-suc width n in
    let as_it_is : read128 term ≡ term = omega (arith, ints, range.at_least, range.at_most, wider, room) in
    let is : read128 (total +ℤ read128 term) ≡ total +ℤ term =
    omega (arith, ints, as_it_is, so_far.range.at_least, so_far.range.at_most, range.at_least, range.at_most, wider, room) in
    record {
      sum = omega (arith, ints, is, so_far.sum, value, more);
      range = record {
        at_least = omega (arith, ints, is, wider, so_far.range.at_least, range.at_least);
        at_most = omega (arith, ints, is, wider, so_far.range.at_most, range.at_most);
      };
    }

-- a sum over one entry more of a list
pub total_push : {A : Type 0} (f : A → ℤ) (xs : List A) (x : A) → total_by f (xs ++ x ∷ []) ≡ total_by f xs +ℤ f x
total_push f xs x = total_by-append f xs (x ∷ []) ∙ omega (arith, ints)

-- the arc costs of vehicle v
abbrev pub arcs_at : Model → List (List ℕ) → ℕ → ℤ
arcs_at model lists v = route_cost model v (route lists v)

-- the fixed cost of vehicle v, where it is used
abbrev pub fixed_at : Model → List (List ℕ) → ℕ → ℤ
fixed_at model lists v = cond (is_empty (route lists v)) (pos 0) (vehicle_at model v).fixed

pub fixed_is : (model : Model) (lists : List (List ℕ)) → fixed_part model lists ≡ total_by (fixed_at model lists) (below (length lists))
fixed_is model lists = total_by-failing (λ v. (vehicle_at model v).fixed) (λ v. is_empty (route lists v)) (below (length lists))

-- what a group costs
abbrev pub group_cost : List (List ℕ) → Group → ℤ
group_cost lists group = penalty_for group.penalty group.max (active_in lists group)
