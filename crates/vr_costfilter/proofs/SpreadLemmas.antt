-- How far lists reach at least, one list further.
use Rattle.std.proofs.Common.{◌≡◌, ◌∙◌, ◌<◌, ◌≤◌, ◌+◌, ℕ, zero, suc, Bool, true, List, [], ◌∷◌, false, cond, not, length, map, take, refl, add-one, ap, ap₂}
use Rattle.std.proofs.Common.{sym, subst, arith, to_z, of_z, w64}
use Rattle.std.specs.Prelude.{ℤ, pos, neg_ℤ, fold, ◌-ℤ◌, ◌*ℤ◌, ◌≤ℤ◌, ◌==◌, ◌||◌, All, IsTrue}
use Rattle.std.proofs.lemmas.List.{take_all}
use Rattle.std.proofs.lemmas.List.Sums.{fold_more, fold-append}
use Rattle.std.specs.Int.{int_max, int_min}
use Rattle.std.proofs.lemmas.Int.{ints, int_max_is, int_min_is}
use Rattle.vr_model.specs.tables.Numbers.{below, horizon}
use Rattle.vr_model.specs.tables.Tables.{dimension_at, no_dimension}
use Rattle.vr_model.proofs.tables.Ranges.{below-more}
use Rattle.vr_model.proofs.tables.Totals.{sum_not_negative, sum_nothing, total_by-less}
use Rattle.vr_model.specs.tables.WellFormed.{IsIn, IsWellFormed}
use Rattle.vr_model.specs.routes.Routes.{is_empty, route, used_vehicles}
use Rattle.vr_model.specs.routes.Rules.{is_valid}
use Rattle.vr_model.specs.routes.Costs.{assigned, end_at, greatest, least, start_at}
use Rattle.vr_model.specs.schedules.Schedules.{cumul}
use Rattle.vr_model.specs.declared.records.Model.{Model}
use Rattle.vr_model.proofs.tables.Members.{In, to_below, to_filter}
use Rattle.vr_model.proofs.routes.Bounded.{fold-max_least, fold-min_most}
use Rattle.vr_model.proofs.routes.CostBounds.{end-up_to, start-up_to}
use Rattle.vr_plan.specs.Extents.{global_in}
use Rattle.vr_plan.specs.Timings.{last_with, start_with}
use Rattle.vr_plan.proofs.ExtentLemmas.{times-none}
use Rattle.vr_plan.proofs.PlanCostLemmas.{plan-at, used-all}
use Rattle.vr_earliest.specs.Ways.{earliest_end, least_span}
use Rattle.vr_earliest.specs.declared.earlies.Early.{Early}
use Rattle.vr_routes.specs.Pieces.{ListAfter, changed, joined, no_part, part_at}
use Rattle.vr_routes.proofs.CommitLemmas.{as_many_lists}
use Rattle.vr_routes.specs.Changes.{AreParts}
use Rattle.vr_costfilter.specs.GlobalCosts.{global_cost_of, vehicles_of}
use Rattle.vr_costfilter.proofs.GlobalLemmas.{away, NonePays}
use Rattle.vr_costfilter.specs.Spreads.{first_start, gives, global_least, global_least_in, last_end, no_spread, spread_after, spread_of_kept, with_changed}
use Rattle.vr_costfilter.specs.Spreads.{with_chosen, with_kept}
use Rattle.vr_costfilter.specs.Spreads.{IsSpread, IsSpreadInRange}
use Rattle.vr_costfilter.specs.SortedVehicles.{names}
use Rattle.vr_costfilter.proofs.ReachLemmas.{greatest-in, least-in}
use Rattle.vr_costfilter.specs.declared.spreads.Spread.{Spread}
use Rattle.vr_costfilter.proofs.ChosenLemmas.{no-earlier, times-le}
use Rattle.vr_parts.proofs.SumLemmas.{part-list, route-kept}

-- ---- the greatest and the least of the numbers of some vehicles

greatest-low : (f : ℕ → ℤ) (vs : List ℕ) → All (λ v. pos 0 ≤ℤ f v) vs → pos 0 ≤ℤ greatest (map f vs)
greatest-low f [] each = omega (arith, ints)
greatest-low f (v ∷ vs) each = let i = fold-max_least (f v) (map f vs) in let a : pos 0 ≤ℤ f v = each 0 v (omega arith) in omega (arith, ints, i, a)

least-high : (f : ℕ → ℤ) (vs : List ℕ) → All (λ v. f v ≤ℤ horizon) vs → least (map f vs) ≤ℤ horizon
least-high f [] each = omega (arith, ints)
least-high f (v ∷ vs) each = let i = fold-min_most (f v) (map f vs) in let a : f v ≤ℤ horizon = each 0 v (omega arith) in omega (arith, ints, i, a)

-- ---- how far valid lists reach

module _ (model : Model) (well : IsWellFormed model) (lists : List (List ℕ))
    (valid : IsTrue (is_valid model lists)) (d : ℕ) (low : d < length model.dimensions) where
  -- nothing is told yet
  pub spread-begins : (s : Spread) → s.last ≡ pos 0 → s.start ≡ horizon → s.span ≡ neg_ℤ horizon → IsSpread model lists d s
  spread-begins s last start span =
      let ends = greatest-low (end_at (assigned model lists) d) (used_vehicles lists)
      (used-all (λ v. pos 0 ≤ℤ end_at (assigned model lists) d v) lists (λ v known used. (end-up_to model well lists valid d v low known used).at_least)) in
      let starts = least-high (start_at (assigned model lists) d) (used_vehicles lists)
      (used-all (λ v. start_at (assigned model lists) d v ≤ℤ horizon) lists
      (λ v known used. (start-up_to model well lists valid d v low known used).at_most)) in
      record {
        last = omega (arith, ints, ends, last);
        start = omega (arith, ints, starts, start);
        span = omega (arith, ints, ends, starts, span);
      }

  module _ (v : ℕ) (known : v < length lists) (used : is_empty (route lists v) ≡ false) where
    among : In (used_vehicles lists) v
    among = to_filter (λ v. not (is_empty (route lists v))) (below (length lists)) v (to_below (length lists) v known) (ap not used)

    -- a used vehicle ends no later than the last one
    ends-within : last_with model d v (route lists v) ≤ℤ last_end model lists d
    ends-within = subst (λ x. x ≤ℤ last_end model lists d) (ap (λ plan. cumul plan (suc (length (route lists v)))) (plan-at model lists d v low known used))
        (greatest-in (end_at (assigned model lists) d) (used_vehicles lists) v among)

    starts-within : first_start model lists d ≤ℤ start_with model d v (route lists v)
    starts-within = subst (λ x. first_start model lists d ≤ℤ x) (ap (λ plan. cumul plan 0) (plan-at model lists d v low known used))
        (least-in (start_at (assigned model lists) d) (used_vehicles lists) v among)

    -- a list more, at its chosen schedule
    spread-chosen : (s t : Spread) → IsSpread model lists d s → t.last ≡ int_max s.last (last_with model d v (route lists v))
        → t.start ≡ int_min s.start (start_with model d v (route lists v)) → t.span ≡ s.span
        → IsSpread model lists d t
    spread-chosen s t h last start span =
        let ends = ends-within in
        let starts = starts-within in
        let a = int_max_is s.last (last_with model d v (route lists v)) in
        let b = int_min_is s.start (start_with model d v (route lists v)) in
        record {
          last = omega (arith, ints, ends, a, h.last, last);
          start = omega (arith, ints, starts, b, h.start, start);
          span = omega (arith, ints, h.span, span);
        }

    -- a list more, by how early it can end and how short its span can be
    spread-early : (s t : Spread) → IsSpread model lists d s → t.last ≡ int_max s.last (earliest_end model d v (route lists v))
        → t.start ≡ s.start → t.span ≡ int_max s.span (least_span model d v (route lists v))
        → IsSpread model lists d t
    spread-early s t h last start span =
        let ends = ends-within in
        let starts = starts-within in
        let e = no-earlier model lists valid d v low known used well in
        let a = int_max_is s.last (earliest_end model d v (route lists v)) in
        let b = int_max_is s.span (least_span model d v (route lists v)) in
        record {
          last = omega (arith, ints, ends, a, h.last, e.last, last);
          start = omega (arith, ints, h.start, start);
          span = omega (arith, ints, ends, starts, b, h.span, e.span, span);
        }

  -- what the global span costs at least
  spread-costs : (s : Spread) → IsSpread model lists d s → pos 0 ≤ℤ (dimension_at model d).global_span_cost
      → ((dimension_at model d).global_span_cost *ℤ int_max (s.last -ℤ s.start) s.span) ≤ℤ global_in model lists d
  spread-costs s h coefficient =
      let m = int_max_is (s.last -ℤ s.start) s.span in
      times-le (dimension_at model d).global_span_cost (int_max (s.last -ℤ s.start) s.span)
      (last_end model lists d -ℤ first_start model lists d) coefficient (omega (arith, ints, m, h.last, h.start, h.span))

-- ---- one list more of those after a change

-- some part gives a vehicle a list where it is one of their vehicles
pub names-gives : (parts : List ListAfter) (v : ℕ) → names (vehicles_of parts) v ≡ gives parts v
names-gives [] v = refl
names-gives (p ∷ ps) v = ap (λ b. (p.vehicle == v) || b) (names-gives ps v)

pub kept-more : (model : Model) (lists : List (List ℕ)) (parts : List ListAfter) (d n : ℕ)
    → spread_of_kept model lists parts d (n + 1) ≡ with_kept model lists parts d (spread_of_kept model lists parts d n) n
kept-more model lists parts d n = ap (fold (with_kept model lists parts d) no_spread) (below-more n)
    ∙ fold-append (with_kept model lists parts d) no_spread (below n) (n ∷ [])

-- a list that stays, where it has nodes
abbrev pub reached : Model → ℕ → ℕ → List ℕ → Spread → Spread
reached model d v list s = record { last = int_max s.last (last_with model d v list); start = int_min s.start (start_with model d v list); span = s.span }

-- a list that a part gives, where it has nodes
abbrev pub reached-early : Model → ℕ → ℕ → List ℕ → Spread → Spread
reached-early model d v list s =
    record { last = int_max s.last (earliest_end model d v list); start = s.start; span = int_max s.span (least_span model d v list) }

-- a list that no part gives
pub stays : (model : Model) (lists : List (List ℕ)) (parts : List ListAfter) (d v : ℕ) (s : Spread) → gives parts v ≡ false
    → with_kept model lists parts d s v ≡ cond (is_empty (route lists v)) s (reached model d v (route lists v) s)
stays model lists parts d v s none = ap (λ b. cond b s (with_chosen model d v (route lists v) s)) none

-- ---- the lists after a change reach no less

module _ (model : Model) (well : IsWellFormed model) (lists : List (List ℕ)) (parts : List ListAfter)
    (are : AreParts lists parts) (valid : IsTrue (is_valid model (changed lists parts))) where
  abbrev later : List (List ℕ)
  later = changed lists parts

  module _ (d : ℕ) (low : d < length model.dimensions) where
    -- a list that stays
    kept-told : (v : ℕ) → v < length lists → (s : Spread) → IsSpread model later d s → IsSpread model later d (with_kept model lists parts d s v)
    kept-told v known s h = by (gives parts v) refl
      where
        by : (b : Bool) → gives parts v ≡ b → IsSpread model later d (cond b s (with_chosen model d v (route lists v) s))
        by true _ = h
        by false none = there (is_empty (route lists v)) refl
          where
            same : route later v ≡ route lists v
            same = route-kept lists parts lists v (away parts v (names-gives parts v ∙ none))

            there : (b : Bool) → is_empty (route lists v) ≡ b
                → IsSpread model later d (cond b s (reached model d v (route lists v) s))
            there true _ = h
            there false used =
                spread-chosen model well later valid d low v (let n = as_many_lists lists parts in omega (arith, n, known)) (ap is_empty same ∙ used) s _ h
                (ap (λ l. int_max s.last (last_with model d v l)) (sym same)) (ap (λ l. int_min s.start (start_with model d v l)) (sym same)) refl

    -- a list that a part gives
    given-told : (k : ℕ) → k < length parts → (s : Spread) → IsSpread model later d s → IsSpread model later d (with_changed model lists d s (part_at parts k))
    given-told k under s h = there (is_empty (joined lists (part_at parts k).pieces)) refl
      where
        same : route later (part_at parts k).vehicle ≡ joined lists (part_at parts k).pieces
        same = part-list lists parts are k under

        there : (b : Bool) → is_empty (joined lists (part_at parts k).pieces) ≡ b
            → IsSpread model later d (cond b s (reached-early model d (part_at parts k).vehicle (joined lists (part_at parts k).pieces) s))
        there true _ = h
        there false used =
            spread-early model well later valid d low (part_at parts k).vehicle
            (let n = as_many_lists lists parts in let known = are.each_vehicle k no_part under in omega (arith, n, known)) (ap is_empty same ∙ used) s _ h
            (ap (λ l. int_max s.last (earliest_end model d (part_at parts k).vehicle l)) (sym same)) refl
            (ap (λ l. int_max s.span (least_span model d (part_at parts k).vehicle l)) (sym same))

    kept-reach : (n : ℕ) → n ≤ length lists → IsSpread model later d (spread_of_kept model lists parts d n)
    kept-reach zero high = spread-begins model well later valid d low no_spread refl refl refl
    kept-reach (suc n) high =
        subst (λ m. IsSpread model later d (spread_of_kept model lists parts d m)) (add-one n)
        (subst (IsSpread model later d) (sym (kept-more model lists parts d n))
        (kept-told n (omega (arith, high)) (spread_of_kept model lists parts d n) (kept-reach n (omega (arith, high)))))

    given-reach : (k : ℕ) → k ≤ length parts
        → IsSpread model later d (fold (with_changed model lists d) (spread_of_kept model lists parts d (length lists)) (take k parts))
    given-reach zero high = kept-reach (length lists) (omega arith)
    given-reach (suc k) high =
        let base = spread_of_kept model lists parts d (length lists) in
        subst (λ m. IsSpread model later d (fold (with_changed model lists d) base (take m parts))) (add-one k)
        (subst (IsSpread model later d) (sym (fold_more (with_changed model lists d) base parts k no_part (omega (arith, high))))
        (given-told k (omega (arith, high)) (fold (with_changed model lists d) base (take k parts)) (given-reach k (omega (arith, high)))))

    after-reach : IsSpread model later d (spread_after model lists parts d)
    after-reach =
        subst (λ ps. IsSpread model later d (fold (with_changed model lists d) (spread_of_kept model lists parts d (length lists)) ps))
        (take_all (length parts) parts (omega arith))
        (given-reach (length parts) (omega arith))

    least-in-dimension : pos 0 ≤ℤ (global_in model later d -ℤ global_least_in model lists parts d)
    least-in-dimension =
        let c = spread-costs model well later valid d low (spread_after model lists parts d)
        after-reach (well.each_dimension d no_dimension low).global_span_cost_in_range.at_least in
        omega (arith, ints, c)

  -- valid lists after a change cost no less by their global spans
  pub least-holds : global_least model lists parts ≤ℤ global_cost_of model later
  least-holds =
      let f = global_in model later in
      let g = global_least_in model lists parts in
      let s = sum_not_negative (λ d. f d -ℤ g d) 0 (length model.dimensions) (λ d _ high. least-in-dimension d (omega (arith, high))) in
      let e = total_by-less f g (below (length model.dimensions)) in
      omega (arith, ints, s, e)

-- where no global span has a coefficient, none costs anything
pub none-least : (model : Model) → NonePays model → (lists : List (List ℕ)) (parts : List ListAfter) → global_least model lists parts ≡ pos 0
none-least model none lists parts =
    sum_nothing (global_least_in model lists parts) 0 (length model.dimensions) (λ d _ low. times-none (dimension_at model d).global_span_cost
    (int_max ((spread_after model lists parts d).last -ℤ (spread_after model lists parts d).start) (spread_after model lists parts d).span)
    (none d (omega (arith, low))))

-- spreads of the same numbers
pub same-spread : (a b : Spread) → a.last ≡ b.last → a.start ≡ b.start → a.span ≡ b.span → a ≡ b
same-spread a b last start span =
    ap₂ (λ (x y : ℤ). (let s : Spread = record { last = x; start = y; span = a.span } in s)) last start
    ∙ ap (λ (z : ℤ). (let s : Spread = record { last = b.last; start = b.start; span = z } in s)) span

-- ---- ranges

pub range-early : (early : Early) → IsIn (pos 0) horizon early.last → IsIn (neg_ℤ horizon) horizon early.span → (s t : Spread) → IsSpreadInRange s
    → t.last ≡ int_max s.last early.last → t.start ≡ s.start → t.span ≡ int_max s.span early.span → IsSpreadInRange t
range-early early x y s t h last start span =
    let a = int_max_is s.last early.last in
    let b = int_max_is s.span early.span in
    let p = h.last in
    let q = h.span in
    record {
      last = record { at_least = omega (arith, ints, a, last, x.at_least, p.at_least); at_most = omega (arith, ints, a, last, x.at_most, p.at_most) };
      start = subst (IsIn (pos 0) horizon) (sym start) h.start;
      span = record { at_least = omega (arith, ints, b, span, y.at_least, q.at_least); at_most = omega (arith, ints, b, span, y.at_most, q.at_most) };
    }

pub read-span : (x : ℤ) → IsIn (neg_ℤ horizon) horizon x → to_z w64 (of_z w64 x) ≡ x
read-span x h = omega (arith, ints, h.at_least, h.at_most)
