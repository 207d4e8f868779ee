-- The parts of the cost that dimensions have, dimension by dimension.
use Rattle.std.proofs.Common.{◌≡◌, ◌∙◌, ◌<◌, ◌≤◌, ◌+◌, ◌*◌, ℕ, zero, suc, List, length, refl, ap, ap₂, sym, arith}
use Rattle.std.specs.Prelude.{ℤ, pos, ◌+ℤ◌, ◌-ℤ◌, ◌*ℤ◌, ◌≤ℤ◌}
use Rattle.std.specs.List.{range_with_len}
use Rattle.std.proofs.lemmas.Int.{ints}
use Rattle.vr_model.specs.declared.records.Model.{Model}
use Rattle.vr_model.specs.tables.Numbers.{number_at, total_by, below}
use Rattle.vr_model.specs.tables.Tables.{dimension_at}
use Rattle.vr_model.specs.routes.Routes.{route, used_vehicles}
use Rattle.vr_model.specs.routes.Costs.{start_at, end_at, assigned, soft_costs, soft_part, span_part}
use Rattle.vr_model.specs.schedules.Schedules.{cumul}
use Rattle.vr_model.proofs.tables.Totals.{total_by-more, total_by-turned}
use Rattle.vr_model.proofs.routes.Lists.{are_lists-count}
use Rattle.vr_plan.specs.Bounds.{cumul_cost, IsAround}
use Rattle.vr_plan.specs.Extents.{global_in, length_of}
use Rattle.vr_plan.specs.Timings.{soft_of, soft_with, span_with}
use Rattle.vr_plan.proofs.ExtentLemmas.{global-cost}
use Rattle.vr_plan.proofs.PlanCostLemmas.{plan-at, total_by-within, used-all}
use Rattle.vr_rules.specs.Sums.{AreVehicleSums}
use Rattle.vr_rules.specs.Parts.{soft_cost_in, span_cost_in, AreTimed}
use Rattle.vr_rules.specs.declared.sums.RoutesIn.{RoutesIn}
use Rattle.vr_rules.specs.declared.sums.Sums.{Sums}
use Rattle.vr_rules.specs.declared.parts.Timed.{Timed}
use Rattle.vr_rules.proofs.SumLemmas.{visits-bound}

-- ---- the plans of an assignment

module _ (model : Model) where
  module _ (lists : List (List ℕ)) where
    dimensions-all : (f g : ℕ → ℤ) → ((d : ℕ) → d < length model.dimensions → f d ≡ g d)
        → total_by f (below (length model.dimensions)) ≡ total_by g (below (length model.dimensions))
    dimensions-all f g h = go 0 (length model.dimensions) (omega arith)
      where
        go : (a n : ℕ) → a + n ≤ length model.dimensions → total_by f (range_with_len a n) ≡ total_by g (range_with_len a n)
        go a zero within = refl
        go a (suc n) within = ap₂ (λ x y. x +ℤ y) (h a (omega (arith, within))) (go (a + 1) n (omega (arith, within)))

    -- the soft part, dimension by dimension
    pub soft-part : total_by (soft_cost_in model lists) (below (length model.dimensions)) ≡ soft_part model (assigned model lists)
    soft-part = sym (
        total_by-turned (λ v d. soft_costs model (assigned model lists) d v) (used_vehicles lists) (below (length model.dimensions))
        ∙ dimensions-all (λ d. total_by (λ v. soft_costs model (assigned model lists) d v) (used_vehicles lists)) (soft_cost_in model lists) (λ d low.
        total_by-within (λ v. soft_costs model (assigned model lists) d v) (λ v. soft_with model d v (route lists v)) (used_vehicles lists)
        (used-all (λ v. soft_costs model (assigned model lists) d v ≡ soft_with model d v (route lists v)) lists (λ v known some.
        ap (λ plan. soft_of (dimension_at model d) v (route lists v) plan.cumuls) (plan-at model lists d v low known some)))))

    -- the span part
    pub span-part : total_by (span_cost_in model lists) (below (length model.dimensions)) ≡ span_part model (assigned model lists)
    span-part = sym (
        total_by-turned (λ v d. number_at (dimension_at model d).span_costs v *ℤ (end_at (assigned model lists) d v -ℤ start_at (assigned model lists) d v))
        (used_vehicles lists) (below (length model.dimensions))
        ∙ dimensions-all
        (λ d. total_by (λ v. number_at (dimension_at model d).span_costs v *ℤ (end_at (assigned model lists) d v -ℤ start_at (assigned model lists) d v))
        (used_vehicles lists)) (span_cost_in model lists) (λ d low.
        total_by-within (λ v. number_at (dimension_at model d).span_costs v *ℤ (end_at (assigned model lists) d v -ℤ start_at (assigned model lists) d v))
        (λ v. span_with model d v (route lists v)) (used_vehicles lists)
        (used-all (λ v. number_at (dimension_at model d).span_costs v *ℤ (end_at (assigned model lists) d v -ℤ start_at (assigned model lists) d v)
        ≡ span_with model d v (route lists v)) lists (λ v known some.
        ap (λ plan. number_at (dimension_at model d).span_costs v *ℤ (cumul plan (suc (length (route lists v))) -ℤ cumul plan 0))
        (plan-at model lists d v low known some)))))

-- ---- one dimension more

-- the sums of dimension n, with the bounds that all visits of the model give
pub record AreBounded (sums : Sums) : Type 0 where
  pub soft_not_negative : pos 0 ≤ℤ sums.soft
  pub soft_bound : sums.soft ≤ℤ pos (cumul_cost * 1200)
  pub span : IsAround (cumul_cost * 100) sums.span

pub sums-bounded : (of : RoutesIn) (sums : Sums)
    → AreVehicleSums of.lookups.now.closed.model.now of.routes.now.lists of.d (length of.routes.now.lists) sums → AreBounded sums
sums-bounded of sums h =
    let few = are_lists-count of.lookups.now.closed.model.now of.routes.now.lists of.lists in
    let many = of.lookups.now.closed.well_formed.number_of_vehicles.at_most in
    let visits = visits-bound of.lookups.now.closed.model.now of.routes.now.lists (length of.routes.now.lists) of.lists in
    record {
      soft_not_negative = h.soft_not_negative;
      soft_bound = omega (arith, ints, h.soft_bound, few, many, visits, of.lookups.now.closed.well_formed.number_of_nodes.1);
      span = record { low = omega (arith, ints, h.span_in_range.low, few, many); high = omega (arith, ints, h.span_in_range.high, few, many) };
    }

pub AreTimed-more : (model : Model) (lists : List (List ℕ)) (n : ℕ) (before after : Timed) (sums : Sums) (cost : ℤ)
    → n < length model.dimensions → AreTimed model lists n before
    → AreVehicleSums model lists n (length lists) sums → AreBounded sums
    → cost ≡ (dimension_at model n).global_span_cost *ℤ length_of sums.extent → IsAround cumul_cost cost
    → after.soft ≡ before.soft +ℤ sums.soft → after.span ≡ before.span +ℤ sums.span → after.global ≡ before.global +ℤ cost → AreTimed model lists (n + 1) after
AreTimed-more model lists n before after sums cost low h are bounded is range soft span global =
    let paid = is ∙ global-cost model lists n low sums.extent are.extent in
    record {
      soft = omega (arith, ints, total_by-more (soft_cost_in model lists) n, h.soft, are.soft, soft);
      span = omega (arith, ints, total_by-more (span_cost_in model lists) n, h.span, are.span, span);
      global = omega (arith, ints, total_by-more (global_in model lists) n, h.global, paid, global);
      soft_not_negative = omega (arith, ints, soft, h.soft_not_negative, bounded.soft_not_negative);
      soft_bound = omega (arith, ints, soft, h.soft_bound, bounded.soft_bound);
      span_in_range = record {
        low = omega (arith, ints, span, h.span_in_range.low, bounded.span.low);
        high = omega (arith, ints, span, h.span_in_range.high, bounded.span.high);
      };
      global_in_range = record {
        low = omega (arith, ints, global, h.global_in_range.low, range.low);
        high = omega (arith, ints, global, h.global_in_range.high, range.high);
      };
    }
