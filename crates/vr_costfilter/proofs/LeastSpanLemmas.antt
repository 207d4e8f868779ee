-- What a change adds at least: what spans cost at least after it, less what is paid before it.
use Rattle.std.proofs.Common.{◌≡◌, ℕ, suc, ◌+◌, ◌<◌, Bool, true, false, cond, List, [], ◌∷◌, length, take, refl, subst, arith}
use Rattle.std.specs.Prelude.{ℤ, pos, ◌+ℤ◌, ◌-ℤ◌, ◌*ℤ◌, ◌≤ℤ◌, All, IsTrue}
use Rattle.std.proofs.lemmas.Int.{ints}
use Rattle.std.proofs.lemmas.List.{get_or_default}
use Rattle.vr_model.specs.tables.Numbers.{total_by, below, number_at}
use Rattle.vr_model.specs.tables.WellFormed.{IsWellFormed}
use Rattle.vr_model.specs.routes.Routes.{is_empty, route}
use Rattle.vr_model.specs.routes.Rules.{is_valid}
use Rattle.vr_model.specs.declared.records.Model.{Model}
use Rattle.vr_model.proofs.routes.CostBounds.{softs-up_to}
use Rattle.vr_model.proofs.tables.Totals.{sum_not_negative, total_by-less}
use Rattle.vr_plan.specs.Timings.{last_with, soft_of, soft_with, span_with, start_with}
use Rattle.vr_model.specs.schedules.Schedules.{Plan}
use Rattle.vr_model.specs.tables.Tables.{dimension_at, no_dimension}
use Rattle.vr_plan.proofs.PlanCostLemmas.{plan-at}
use Rattle.vr_routes.specs.Pieces.{ListAfter, changed, joined, no_part, part_at}
use Rattle.vr_routes.specs.Changes.{AreParts}
use Rattle.vr_routes.proofs.CommitLemmas.{as_many_lists}
use Rattle.vr_earliest.specs.Ways.{least_span}
use Rattle.vr_costfilter.specs.PlanCosts.{plans_cost, plans_least, soft_and_span, spans_least}
use Rattle.vr_parts.specs.Sums.{part_less}
use Rattle.vr_costfilter.proofs.PlanLemmas.{idle-sum, plans-over, IsIdle}
use Rattle.vr_parts.proofs.SumLemmas.{changed-sum, part-list, total-more}
use Rattle.vr_costfilter.proofs.ChosenLemmas.{no-earlier, times-le}

pub less-more : (f g : ℕ → List ℕ → ℤ) (lists : List (List ℕ)) (parts : List ListAfter) (k : ℕ) → k < length parts
    → total_by (part_less f g lists) (take (k + 1) parts) ≡ total_by (part_less f g lists) (take k parts) +ℤ part_less f g lists (part_at parts k)
less-more f g lists parts k low = total-more (part_less f g lists) parts k no_part low

total-least : {A : Type 0} (f : A → ℤ) (xs : List A) → All (λ x. pos 0 ≤ℤ f x) xs → pos 0 ≤ℤ total_by f xs
total-least f [] each = omega (arith, ints)
total-least f (x ∷ xs) each =
    let here = each 0 x (omega arith) in
    let rest = total-least f xs (λ k d low. each (suc k) d (omega (arith, low))) in
    omega (arith, ints, here, rest)

-- a list of valid lists costs no less than its spans at least
plans-least : (model : Model) → IsWellFormed model → (lists : List (List ℕ)) → IsTrue (is_valid model lists) → (v : ℕ)
    → v < length model.vehicles → v < length lists → spans_least model v (route lists v) ≤ℤ plans_cost model v (route lists v)
plans-least model well lists valid v vehicle known = by (is_empty (route lists v)) refl
  where
    by : (b : Bool) → is_empty (route lists v) ≡ b
        → cond b (pos 0)
        (total_by (λ d. number_at (dimension_at model d).span_costs v *ℤ least_span model d v (route lists v)) (below (length model.dimensions)))
        ≤ℤ cond b (pos 0) (total_by (λ d. soft_with model d v (route lists v) +ℤ span_with model d v (route lists v)) (below (length model.dimensions)))
    by true used = omega (arith, ints)
    by false used =
        let f : ℕ → ℤ = λ d. soft_with model d v (route lists v) +ℤ span_with model d v (route lists v) in
        let g : ℕ → ℤ = λ d. number_at (dimension_at model d).span_costs v *ℤ least_span model d v (route lists v) in
        let s = sum_not_negative (λ d. f d -ℤ g d) 0 (length model.dimensions) (λ d _ high. each d (omega (arith, high))) in
        let e = total_by-less f g (below (length model.dimensions)) in
        omega (arith, ints, s, e)
      where
        each : (d : ℕ) → d < length model.dimensions → pos 0 ≤ℤ ((soft_with model d v (route lists v) +ℤ span_with model d v (route lists v))
            -ℤ (number_at (dimension_at model d).span_costs v *ℤ least_span model d v (route lists v)))
        each d low =
            let plan = plan-at model lists d v low known used in
            let soft = subst (λ (p : Plan). pos 0 ≤ℤ soft_of (dimension_at model d) v (route lists v) p.cumuls)
            plan (softs-up_to model well lists valid d v low known used).at_least in
            let is = well.each_dimension d no_dimension low in
            let coefficient = (is.span_costs_in_range v (pos 0) (omega (arith, is.span_cost_of_each_vehicle, vehicle))).at_least in
            let span = times-le (number_at (dimension_at model d).span_costs v) (least_span model d v (route lists v))
            (last_with model d v (route lists v) -ℤ start_with model d v (route lists v))
            coefficient (no-earlier model lists valid d v low known used well).span in
            omega (arith, ints, soft, span)

module _ (model : Model) (well : IsWellFormed model) (lists : List (List ℕ)) (parts : List ListAfter) (are : AreParts lists parts)
    (many : length lists ≡ length model.vehicles) (valid : IsTrue (is_valid model (changed lists parts))) where
  new-least : All (λ part. pos 0 ≤ℤ (plans_cost model part.vehicle (joined lists part.pieces) -ℤ spans_least model part.vehicle (joined lists part.pieces)))
      parts
  new-least k d low =
      let part = part_at parts k in
      let vehicle = are.each_vehicle k no_part low in
      let known : part.vehicle < length (changed lists parts) = (let n = as_many_lists lists parts in omega (arith, n, vehicle)) in
      let here = plans-least model well (changed lists parts) valid part.vehicle (omega (arith, vehicle, many)) known in
      let there = subst (λ l. spans_least model part.vehicle l ≤ℤ plans_cost model part.vehicle l) (part-list lists parts are k low) here in
      subst (λ (p : ListAfter). pos 0 ≤ℤ (plans_cost model p.vehicle (joined lists p.pieces) -ℤ spans_least model p.vehicle (joined lists p.pieces)))
      (get_or_default parts k no_part d low) (omega (arith, ints, there))

  pub change-least : total_by (part_less (spans_least model) (plans_cost model) lists) parts
      ≤ℤ (soft_and_span model (changed lists parts) -ℤ soft_and_span model lists)
  change-least =
      let new : ListAfter → ℤ = λ part. plans_cost model part.vehicle (joined lists part.pieces) in
      let old : ListAfter → ℤ = λ part. plans_cost model part.vehicle (route lists part.vehicle) in
      let low : ListAfter → ℤ = λ part. spans_least model part.vehicle (joined lists part.pieces) in
      let x = plans-over model lists in
      let y = plans-over model (changed lists parts) in
      let s = changed-sum (plans_cost model) lists parts are in
      let d = total_by-less new old parts in
      let e = total_by-less low old parts in
      let n = total-least (λ part. new part -ℤ low part) parts new-least in
      let m = total_by-less new low parts in
      omega (arith, ints, x, y, s, d, e, n, m)

-- where no list costs anything, nothing is added
pub change-idle : (model : Model) → IsIdle model → (lists later : List (List ℕ)) → pos 0 ≤ℤ (soft_and_span model later -ℤ soft_and_span model lists)
change-idle model idle lists later =
    let x = plans-over model lists in
    let y = plans-over model later in
    let a = idle-sum model idle lists in
    let b = idle-sum model idle later in
    omega (arith, ints, x, y, a, b)

pub least-idle : (model : Model) → IsIdle model → (lists : List (List ℕ)) (parts : List ListAfter) → plans_least model lists parts ≡ pos 0
least-idle model idle lists [] = refl
least-idle model idle lists (p ∷ ps) =
    let rest = least-idle model idle lists ps in
    let new = idle.spans p.vehicle (joined lists p.pieces) in
    let old = idle.plans p.vehicle (route lists p.vehicle) in
    omega (arith, ints, rest, new, old)
