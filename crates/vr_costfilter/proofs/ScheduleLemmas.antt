-- What the timing of a list costs.
use Rattle.std.proofs.Common.{◌≡◌, ◌∙◌, ◌≤◌, ℕ, List, ap₂, arith, to_z, of_z, w64}
use Rattle.std.specs.Prelude.{ℤ, ◌+ℤ◌, ◌-ℤ◌, ◌*ℤ◌}
use Rattle.std.proofs.lemmas.Int.{ints}
use Rattle.vr_model.specs.tables.Numbers.{number_at}
use Rattle.vr_model.specs.tables.Tables.{dimension_at}
use Rattle.vr_model.specs.declared.records.Model.{Model}
use Rattle.vr_plan.specs.Timings.{soft_with, span_with, IsTiming, IsTimingOf}
use Rattle.vr_plan.specs.declared.timings.Timing.{Timing}
use Rattle.vr_costfilter.specs.PlanCosts.{IsPlanCostIn}

-- the numbers of the timing of a shorter list
pub timing-more : (timing : Timing) (n m : ℕ) → n ≤ m → IsTimingOf n timing → IsTimingOf m timing
timing-more timing n m le h = record {
  not_negative = h.not_negative;
  bound = omega (arith, ints, h.bound, le);
  start_in_range = h.start_in_range;
  last_in_range = h.last_in_range;
}

-- what a timing costs is what the list costs by soft upper bounds and by its span
pub timed-cost : (model : Model) (d v : ℕ) (list : List ℕ) (timing : Timing) → IsTiming model d v list timing → (cost : ℤ)
    → cost ≡ timing.soft +ℤ (number_at (dimension_at model d).span_costs v *ℤ (timing.last -ℤ timing.start)) → IsPlanCostIn cost
    → to_z w64 (of_z w64 cost) ≡ soft_with model d v list +ℤ span_with model d v list
timed-cost model d v list timing is cost value range =
    let read : to_z w64 (of_z w64 cost) ≡ cost = omega (arith, ints, range.low, range.high) in
    read ∙ value ∙ ap₂ (λ (x y : ℤ). x +ℤ y) is.soft (ap₂ (λ p q. number_at (dimension_at model d).span_costs v *ℤ (p -ℤ q)) is.last is.start)
