-- What chosen schedules come to, one vehicle further.
use Rattle.std.proofs.Common.{◌≡◌, ◌∙◌, ◌<◌, ◌≤◌, ◌+◌, ◌*◌, ◌++◌, ℕ, List, [], ◌∷◌, true, false, length, take, drop, refl, ap, ap₂, sym, subst, arith, Option}
use Rattle.std.proofs.Common.{Some, None}
use Rattle.std.specs.Prelude.{ℤ, pos, ◌+ℤ◌, ◌-ℤ◌, ◌*ℤ◌, ◌≤ℤ◌, ◌&&◌, not, IfSome, IsSome, MatchOption}
use Rattle.std.specs.Ordering.{int_eq}
use Rattle.std.specs.List.{concat, list_all}
use Rattle.std.proofs.lemmas.Int.{ints}
use Rattle.std.proofs.lemmas.List.{append-nil, length-append, take_more, take-append-drop}
use Rattle.std.proofs.lemmas.List.Folds.{concat-append}
use Rattle.vr_model.specs.declared.records.Dimension.{Dimension}
use Rattle.vr_model.specs.declared.records.Model.{Model}
use Rattle.vr_model.specs.tables.Numbers.{number_at, total_by}
use Rattle.vr_model.specs.tables.Tables.{dimension_at, is_visit}
use Rattle.vr_model.specs.routes.Routes.{route, is_empty, is_distinct, are_lists}
use Rattle.vr_model.specs.deciding.Testing.{and_left, and_right}
use Rattle.vr_model.proofs.tables.Tests.{or-false_left, or-false_right}
use Rattle.vr_model.proofs.tables.Totals.{total_by-append}
use Rattle.vr_plan.specs.Bounds.{cumul_cost, IsAround}
use Rattle.vr_plan.specs.Paying.{may_pay_alone}
use Rattle.vr_plan.specs.Timings.{soft_with, start_with, last_with, span_with, IsTiming, IsTimingOf}
use Rattle.vr_plan.specs.Extents.{used_below, IsExtent, IsExtentInRange, IsWider}
use Rattle.vr_plan.specs.declared.timings.Timing.{Timing}
use Rattle.vr_plan.specs.declared.extents.Extent.{Extent}
use Rattle.vr_plan.proofs.ExtentLemmas.{used_below-same, used_below-push, times-none, extent-range, extent-wider}
use Rattle.vr_plan.proofs.PayingLemmas.{pays_nothing_where, zero_where}
use Rattle.vr_rules.specs.Sums.{may_pay, AreVehicleSums, PaysNothingToo}
use Rattle.vr_rules.specs.declared.sums.Sums.{Sums}
use Rattle.vr_lists.proofs.VisitLists.{visits-few}

total_by-push : (f : ℕ → ℤ) (xs : List ℕ) (x : ℕ) → total_by f (xs ++ x ∷ []) ≡ total_by f xs +ℤ f x
total_by-push f xs x = total_by-append f xs (x ∷ []) ∙ omega (arith, ints)

-- a list that may pay nothing does so
pub pays_nothing_too : (dimension : Dimension) (v : ℕ) (list : List ℕ) → may_pay dimension v list ≡ false → PaysNothingToo dimension v list
pays_nothing_too dimension v list none =
    let global = not (int_eq dimension.global_span_cost (pos 0)) in
    let alone = may_pay_alone dimension v list in
    record {
      global = zero_where dimension.global_span_cost (or-false_left global alone none);
      alone = pays_nothing_where dimension v list (or-false_right global alone none);
    }

-- ---- how many visits there are

visits-more : (lists : List (List ℕ)) (n : ℕ) → n < length lists
    → length (concat (take (n + 1) lists)) ≡ length (concat (take n lists)) + length (route lists n)
visits-more lists n low =
    ap (λ ls. length (concat ls)) (take_more lists n [] low)
    ∙ ap length (concat-append (take n lists) (route lists n ∷ []))
    ∙ length-append (concat (take n lists)) (route lists n ++ [])
    ∙ ap (λ l. length (concat (take n lists)) + length l) (append-nil (route lists n))

-- those of the first lists are no more than there are nodes
pub visits-bound : (model : Model) (lists : List (List ℕ)) (n : ℕ) → are_lists model lists ≡ true → length (concat (take n lists)) ≤ model.nodes
visits-bound model lists n are =
    let parts = and_right _ (list_all (is_visit model) (concat lists) && is_distinct (concat lists)) are in
    let few = visits-few model (concat lists) (and_left (list_all (is_visit model) (concat lists)) _ parts)
    (and_right (list_all (is_visit model) (concat lists)) _ parts) in
    let whole = ap (λ ls. length (concat ls)) (take-append-drop n lists) in
    let split = ap length (concat-append (take n lists) (drop n lists)) in
    let both = length-append (concat (take n lists)) (concat (drop n lists)) in
    omega (arith, few, whole, split, both)

module _ (model : Model) (lists : List (List ℕ)) (d n : ℕ) where
  -- ---- the sums with one vehicle more

  module _ (low : n < length lists) (sums : Sums) (h : AreVehicleSums model lists d n sums) where
    bound-more : sums.soft ≤ℤ pos (cumul_cost * (length (concat (take (n + 1) lists)) + 2 * (n + 1)))
    bound-more = omega (arith, ints, h.soft_bound, visits-more lists n low)

    range-more : IsAround (cumul_cost * (n + 1)) sums.span
    range-more = record { low = omega (arith, ints, h.span_in_range.low); high = omega (arith, ints, h.span_in_range.high) }

    -- it is not used
    pub AreSums-unused : is_empty (route lists n) ≡ true → AreVehicleSums model lists d (n + 1) sums
    AreSums-unused e =
        let same = sym (used_below-same lists n e) in
        record {
          soft = h.soft ∙ ap (total_by (λ v. soft_with model d v (route lists v))) same;
          span = h.span ∙ ap (total_by (λ v. span_with model d v (route lists v))) same;
          extent = λ pays. subst (λ used. MatchOption sums.extent (used ≡ []) (IsExtent model lists d used)) same (h.extent pays);
          soft_not_negative = h.soft_not_negative;
          soft_bound = bound-more;
          span_in_range = range-more;
          extent_in_range = h.extent_in_range;
        }

    -- it pays nothing
    pub AreSums-unpaid : is_empty (route lists n) ≡ false → PaysNothingToo (dimension_at model d) n (route lists n) → AreVehicleSums model lists d (n + 1) sums
    AreSums-unpaid e nothing =
        let push = used_below-push lists n e in
        let f : ℕ → ℤ = λ v. soft_with model d v (route lists v) in
        let g : ℕ → ℤ = λ v. span_with model d v (route lists v) in
        let a = ap (total_by f) push ∙ total_by-push f (used_below lists n) n in
        let b = ap (total_by g) push ∙ total_by-push g (used_below lists n) n in
        let x : f n ≡ pos 0 = nothing.alone.soft _ in
        let y : g n ≡ pos 0 = times-none (number_at (dimension_at model d).span_costs n)
        (last_with model d n (route lists n) -ℤ start_with model d n (route lists n)) nothing.alone.span in
        record {
          soft = omega (arith, ints, h.soft, a, x);
          span = omega (arith, ints, h.span, b, y);
          extent = λ pays. absurd (pays nothing.global);
          soft_not_negative = h.soft_not_negative;
          soft_bound = bound-more;
          span_in_range = range-more;
          extent_in_range = h.extent_in_range;
        }

    -- it is used, and its schedule is looked at
    pub AreSums-paid : (timing : Timing) (after : Sums) → is_empty (route lists n) ≡ false
        → IsTiming model d n (route lists n) timing → IsTimingOf (length (route lists n) + 2) timing
        → after.soft ≡ sums.soft +ℤ timing.soft → after.span ≡ sums.span +ℤ number_at (dimension_at model d).span_costs n *ℤ (timing.last -ℤ timing.start)
        → IsAround cumul_cost (number_at (dimension_at model d).span_costs n *ℤ (timing.last -ℤ timing.start))
        → (extent : Extent) → after.extent ≡ Some extent → IsWider sums.extent timing extent → AreVehicleSums model lists d (n + 1) after
    AreSums-paid timing after e is range soft span around extent there wider =
        let push = used_below-push lists n e in
        let f : ℕ → ℤ = λ v. soft_with model d v (route lists v) in
        let g : ℕ → ℤ = λ v. span_with model d v (route lists v) in
        let c : ℤ = number_at (dimension_at model d).span_costs n in
        let a = ap (total_by f) push ∙ total_by-push f (used_below lists n) n in
        let b = ap (total_by g) push ∙ total_by-push g (used_below lists n) n in
        let x : timing.soft ≡ f n = is.soft in
        let y : c *ℤ (timing.last -ℤ timing.start) ≡ g n = ap₂ (λ p q. c *ℤ (p -ℤ q)) is.last is.start in
        record {
          soft = omega (arith, ints, h.soft, a, x, soft);
          span = omega (arith, ints, h.span, b, y, span);
          extent = λ pays. subst (λ o. MatchOption o (used_below lists (n + 1) ≡ []) (IsExtent model lists d (used_below lists (n + 1)))) (sym there)
              (subst (λ used. IsExtent model lists d used extent) (sym push) (extent-wider model lists d n sums.extent timing extent (h.extent pays) is wider));
          soft_not_negative = omega (arith, ints, soft, h.soft_not_negative, range.not_negative);
          soft_bound = omega (arith, ints, soft, h.soft_bound, range.bound, visits-more lists n low);
          span_in_range =
              record { low = omega (arith, ints, span, h.span_in_range.low, around.low); high = omega (arith, ints, span, h.span_in_range.high, around.high) };
          extent_in_range = subst (λ o. IfSome o IsExtentInRange) (sym there)
              (extent-range sums.extent timing extent (length (route lists n) + 2) h.extent_in_range range wider);
        }

    -- the same, where only that an extent is there is known
    pub AreSums-taken : (timing : Timing) (after : Sums) → is_empty (route lists n) ≡ false
        → IsTiming model d n (route lists n) timing → IsTimingOf (length (route lists n) + 2) timing
        → after.soft ≡ sums.soft +ℤ timing.soft → after.span ≡ sums.span +ℤ number_at (dimension_at model d).span_costs n *ℤ (timing.last -ℤ timing.start)
        → IsAround cumul_cost (number_at (dimension_at model d).span_costs n *ℤ (timing.last -ℤ timing.start))
        → IsSome after.extent → IfSome after.extent (IsWider sums.extent timing) → AreVehicleSums model lists d (n + 1) after
    AreSums-taken timing after e is range soft span around some wider = by after.extent refl some wider
      where
        by : (o : Option Extent) → after.extent ≡ o → IsSome o → IfSome o (IsWider sums.extent timing) → AreVehicleSums model lists d (n + 1) after
        by None there some wider = absurd (cc)
        by (Some extent) there some wider = AreSums-paid timing after e is range soft span around extent there wider
