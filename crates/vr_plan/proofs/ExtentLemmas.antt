-- From where to where chosen schedules reach, one vehicle further.
use Rattle.std.proofs.Common.{◌≡◌, ◌∙◌, ◌<◌, ◌+◌, ◌++◌, ℕ, zero, suc, List, [], ◌∷◌, true, false, cond, not, length, map, refl, ap, ap₂, sym, subst, arith}
use Rattle.std.proofs.Common.{Option, Some, None}
use Rattle.std.specs.Prelude.{ℤ, pos, negsuc, ◌-ℤ◌, ◌*ℤ◌, filter, IfSome, MatchOption}
use Rattle.std.specs.Int.{int_max, int_min}
use Rattle.std.proofs.lemmas.Int.{ints, int_max_is, int_min_is}
use Rattle.std.proofs.lemmas.List.{append-nil, length-append}
use Rattle.std.proofs.lemmas.List.Elements.{filter-append}
use Rattle.std.proofs.lemmas.List.Sums.{fold-append}
use Rattle.vr_model.specs.declared.records.Model.{Model}
use Rattle.vr_model.specs.tables.Numbers.{below, horizon}
use Rattle.vr_model.specs.tables.Tables.{dimension_at}
use Rattle.vr_model.specs.tables.WellFormed.{IsIn}
use Rattle.vr_model.specs.routes.Routes.{route, is_empty, used_vehicles}
use Rattle.vr_model.specs.routes.Costs.{start_at, end_at, assigned, greatest, least, global_span}
use Rattle.vr_model.specs.schedules.Schedules.{cumul}
use Rattle.vr_model.proofs.tables.Ranges.{below-more}
use Rattle.vr_plan.specs.Timings.{start_with, last_with, IsTiming, IsTimingOf}
use Rattle.vr_plan.specs.Extents.{used_below, length_of, global_in, IsExtent, IsExtentInRange, IsWider}
use Rattle.vr_plan.specs.declared.timings.Timing.{Timing}
use Rattle.vr_plan.specs.declared.extents.Extent.{Extent}
use Rattle.vr_plan.proofs.PlanCostLemmas.{map-within, plan-at, used-all}

-- ---- the used vehicles

used_below-more : (lists : List (List ℕ)) (n : ℕ) → used_below lists (n + 1) ≡ used_below lists n ++ cond (not (is_empty (route lists n))) (n ∷ []) []
used_below-more lists n =
    ap (filter (λ v. not (is_empty (route lists v)))) (below-more n) ∙ filter-append (λ v. not (is_empty (route lists v))) (below n) (n ∷ [])

-- an unused vehicle adds none
pub used_below-same : (lists : List (List ℕ)) (n : ℕ) → is_empty (route lists n) ≡ true → used_below lists (n + 1) ≡ used_below lists n
used_below-same lists n e =
    used_below-more lists n ∙ ap (λ b. used_below lists n ++ cond (not b) (n ∷ []) []) e ∙ append-nil (used_below lists n)

-- a used one is added at the end
pub used_below-push : (lists : List (List ℕ)) (n : ℕ) → is_empty (route lists n) ≡ false → used_below lists (n + 1) ≡ used_below lists n ++ n ∷ []
used_below-push lists n e = used_below-more lists n ∙ ap (λ b. used_below lists n ++ cond (not b) (n ∷ []) []) e

-- ---- extents

greatest-push : (xs : List ℤ) (x : ℤ) → 0 < length xs → greatest (xs ++ x ∷ []) ≡ int_max (greatest xs) x
greatest-push [] x some = absurd (omega (arith, some))
greatest-push (y ∷ ys) x some = fold-append int_max y ys (x ∷ [])

least-push : (xs : List ℤ) (x : ℤ) → 0 < length xs → least (xs ++ x ∷ []) ≡ int_min (least xs) x
least-push [] x some = absurd (omega (arith, some))
least-push (y ∷ ys) x some = fold-append int_min y ys (x ∷ [])

map-push : (f : ℕ → ℤ) (xs : List ℕ) (x : ℕ) → map f (xs ++ x ∷ []) ≡ map f xs ++ f x ∷ []
map-push f [] x = refl
map-push f (y ∷ ys) x = ap (λ zs. f y ∷ zs) (map-push f ys x)

length-mapped : (f : ℕ → ℤ) (xs : List ℕ) → length (map f xs) ≡ length xs
length-mapped f [] = refl
length-mapped f (x ∷ xs) = ap suc (length-mapped f xs)

zero-times : (x : ℤ) → pos 0 *ℤ x ≡ pos 0
zero-times (pos n) = omega (arith, ints)
zero-times (negsuc n) = omega (arith, ints)

pub times-none : (c x : ℤ) → c ≡ pos 0 → c *ℤ x ≡ pos 0
times-none c x e = ap (λ z. z *ℤ x) e ∙ zero-times x

pub extent-range : (before : Option Extent) (timing : Timing) (extent : Extent) (n : ℕ)
    → IfSome before IsExtentInRange → IsTimingOf n timing → IsWider before timing extent → IsExtentInRange extent
extent-range None timing extent n known range wider = record {
  start = subst (IsIn (pos 0) horizon) (sym wider.start) range.start_in_range;
  last = subst (IsIn (pos 0) horizon) (sym wider.last) range.last_in_range;
}
extent-range (Some e) timing extent n known range wider =
    let a = known.start in
    let b = range.start_in_range in
    let c = known.last in
    let d = range.last_in_range in
    let least = int_min_is e.start timing.start in
    let most = int_max_is e.last timing.last in
    let s = wider.start in
    let l = wider.last in
    record {
      start = record { at_least = omega (arith, ints, a.at_least, b.at_least, least, s); at_most = omega (arith, ints, a.at_most, b.at_most, least, s) };
      last = record { at_least = omega (arith, ints, c.at_least, d.at_least, most, l); at_most = omega (arith, ints, c.at_most, d.at_most, most, l) };
    }

module _ (model : Model) (lists : List (List ℕ)) (d n : ℕ) where
  pub extent-wider : (before : Option Extent) (timing : Timing) (extent : Extent)
      → MatchOption before (used_below lists n ≡ []) (IsExtent model lists d (used_below lists n)) → IsTiming model d n (route lists n) timing
      → IsWider before timing extent → IsExtent model lists d (used_below lists n ++ n ∷ []) extent
  extent-wider None timing extent none is wider = record {
    some = (let a = length-append (used_below lists n) (n ∷ []) in omega (arith, a));
    start = wider.start ∙ is.start ∙ sym (ap (λ used. least (map (λ v. start_with model d v (route lists v)) (used ++ n ∷ []))) none);
    last = wider.last ∙ is.last ∙ sym (ap (λ used. greatest (map (λ v. last_with model d v (route lists v)) (used ++ n ∷ []))) none);
  }
  extent-wider (Some e) timing extent h is wider =
      let used = used_below lists n in
      let f : ℕ → ℤ = λ v. start_with model d v (route lists v) in
      let g : ℕ → ℤ = λ v. last_with model d v (route lists v) in
      let a = length-append used (n ∷ []) in
      record {
        some = omega (arith, a);
        start = wider.start ∙ ap₂ (λ x y. int_min x y) h.start is.start
            ∙ sym (ap least (map-push f used n) ∙ least-push (map f used) (f n) (let m = length-mapped f used in let s = h.some in omega (arith, m, s)));
        last = wider.last ∙ ap₂ (λ x y. int_max x y) h.last is.last
            ∙ sym (ap greatest (map-push g used n) ∙ greatest-push (map g used) (g n) (let m = length-mapped g used in let s = h.some in omega (arith, m, s)));
      }

-- ---- all used vehicles

module _ (model : Model) (lists : List (List ℕ)) where
  -- the global span by the extent of the used vehicles
  pub extent-span : (d : ℕ) → d < length model.dimensions → (extent : Option Extent)
      → MatchOption extent (used_vehicles lists ≡ []) (IsExtent model lists d (used_vehicles lists)) → length_of extent ≡ global_span (assigned model lists) d
  extent-span d low None none =
      sym (ap (λ used. greatest (map (end_at (assigned model lists) d) used) -ℤ least (map (start_at (assigned model lists) d) used)) none)
  extent-span d low (Some e) h = ap₂ (λ x y. x -ℤ y)
      (h.last ∙ sym (ap greatest (map-within (end_at (assigned model lists) d) (λ v. last_with model d v (route lists v)) (used_vehicles lists)
      (used-all (λ v. end_at (assigned model lists) d v ≡ last_with model d v (route lists v)) lists
      (λ v known some. ap (λ plan. cumul plan (suc (length (route lists v)))) (plan-at model lists d v low known some))))))
      (h.start ∙ sym (ap least (map-within (start_at (assigned model lists) d) (λ v. start_with model d v (route lists v)) (used_vehicles lists)
      (used-all (λ v. start_at (assigned model lists) d v ≡ start_with model d v (route lists v))
      lists (λ v known some. ap (λ plan. cumul plan 0) (plan-at model lists d v low known some))))))

  -- what the extent costs: nothing where the coefficient is 0
  pub global-cost : (d : ℕ) → d < length model.dimensions → (extent : Option Extent)
      → (((dimension_at model d).global_span_cost ≡ pos 0 → ⊥) → MatchOption extent (used_vehicles lists ≡ []) (IsExtent model lists d (used_vehicles lists)))
      → (dimension_at model d).global_span_cost *ℤ length_of extent ≡ global_in model lists d
  global-cost d low extent h = by (dimension_at model d).global_span_cost refl
    where
      paid : ((dimension_at model d).global_span_cost ≡ pos 0 → ⊥) → (dimension_at model d).global_span_cost *ℤ length_of extent ≡ global_in model lists d
      paid pays = ap (λ z. (dimension_at model d).global_span_cost *ℤ z) (extent-span d low extent (h pays))

      by : (c : ℤ) → (dimension_at model d).global_span_cost ≡ c → (dimension_at model d).global_span_cost *ℤ length_of extent ≡ global_in model lists d
      by (pos zero) e = times-none (dimension_at model d).global_span_cost (length_of extent) e
          ∙ sym (times-none (dimension_at model d).global_span_cost (global_span (assigned model lists) d) e)
      by (pos (suc n)) e = paid (λ none. differ (sym e ∙ none))
        where
          differ : pos (suc n) ≡ pos 0 → ⊥
          differ same = omega (arith, ints, same)
      by (negsuc n) e = paid (λ none. differ (sym e ∙ none))
        where
          differ : negsuc n ≡ pos 0 → ⊥
          differ same = omega (arith, ints, same)
