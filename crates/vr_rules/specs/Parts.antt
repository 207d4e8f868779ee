-- What the chosen schedules of lists cost in the first dimensions.
use Rattle.std.specs.Prelude.{◌≡◌, ℕ, ◌*◌, List, ℤ, pos, ◌≤ℤ◌}
use Rattle.vr_model.specs.tables.Numbers.{total_by, below}
use Rattle.vr_model.specs.routes.Routes.{route, used_vehicles}
use Rattle.vr_model.specs.declared.records.Model.{Model}
use Rattle.vr_plan.specs.Bounds.{cumul_cost, IsAround}
use Rattle.vr_plan.specs.Extents.{global_in}
use Rattle.vr_plan.specs.Timings.{soft_with, span_with}
use Rattle.vr_rules.specs.declared.parts.Timed.{Timed}

-- what a dimension costs by soft upper bounds, and by spans
abbrev pub soft_cost_in : Model → List (List ℕ) → ℕ → ℤ
soft_cost_in model lists d = total_by (λ v. soft_with model d v (route lists v)) (used_vehicles lists)

abbrev pub span_cost_in : Model → List (List ℕ) → ℕ → ℤ
span_cost_in model lists d = total_by (λ v. span_with model d v (route lists v)) (used_vehicles lists)

-- the costs of the first n dimensions
pub record AreTimed (model : Model) (lists : List (List ℕ)) (n : ℕ) (timed : Timed) : Type 0 where
  pub soft : timed.soft ≡ total_by (soft_cost_in model lists) (below n)
  pub span : timed.span ≡ total_by (span_cost_in model lists) (below n)
  pub global : timed.global ≡ total_by (global_in model lists) (below n)
  pub soft_not_negative : pos 0 ≤ℤ timed.soft
  pub soft_bound : timed.soft ≤ℤ pos (cumul_cost * 1200 * n)
  pub span_in_range : IsAround (cumul_cost * 100 * n) timed.span
  pub global_in_range : IsAround (cumul_cost * n) timed.global
