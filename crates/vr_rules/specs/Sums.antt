-- What the chosen schedules of lists come to, added up over vehicles and over dimensions.
use Rattle.std.specs.Prelude.{◌≡◌, ℕ, ◌+◌, ◌*◌, Bool, not, ◌||◌, List, [], length, take, pos, ◌≤ℤ◌, MatchOption, IfSome}
use Rattle.std.specs.List.{concat}
use Rattle.std.specs.Ordering.{int_eq}
use Rattle.vr_model.specs.tables.Numbers.{total_by}
use Rattle.vr_model.specs.tables.Tables.{dimension_at}
use Rattle.vr_model.specs.routes.Routes.{route}
use Rattle.vr_model.specs.declared.records.Model.{Model}
use Rattle.vr_model.specs.declared.records.Dimension.{Dimension}
use Rattle.vr_plan.specs.Bounds.{cumul_cost, IsAround}
use Rattle.vr_plan.specs.Extents.{used_below, IsExtent, IsExtentInRange}
use Rattle.vr_plan.specs.Paying.{may_pay_alone, PaysNothing}
use Rattle.vr_plan.specs.Timings.{soft_with, span_with}
use Rattle.vr_rules.specs.declared.sums.Sums.{Sums}

-- the sums over the used ones of the first n vehicles in dimension d; the extent is known if its coefficient is not 0
pub record AreVehicleSums (model : Model) (lists : List (List ℕ)) (d n : ℕ) (sums : Sums) : Type 0 where
  pub soft : sums.soft ≡ total_by (λ v. soft_with model d v (route lists v)) (used_below lists n)
  pub span : sums.span ≡ total_by (λ v. span_with model d v (route lists v)) (used_below lists n)
  pub extent : ((dimension_at model d).global_span_cost ≡ pos 0 → ⊥)
      → MatchOption sums.extent (used_below lists n ≡ []) (IsExtent model lists d (used_below lists n))
  pub soft_not_negative : pos 0 ≤ℤ sums.soft
  pub soft_bound : sums.soft ≤ℤ pos (cumul_cost * (length (concat (take n lists)) + 2 * n))
  pub span_in_range : IsAround (cumul_cost * n) sums.span
  pub extent_in_range : IfSome sums.extent IsExtentInRange

-- schedules of a list may cost something: the global span has a coefficient, or they may by themselves
abbrev pub may_pay : Dimension → ℕ → List ℕ → Bool
may_pay dimension v list = not (int_eq dimension.global_span_cost (pos 0)) || may_pay_alone dimension v list

-- no schedule of the list costs anything in this dimension, by itself or beside others
pub record PaysNothingToo (dimension : Dimension) (v : ℕ) (list : List ℕ) : Type 0 where
  pub global : dimension.global_span_cost ≡ pos 0
  pub alone : PaysNothing dimension v list
