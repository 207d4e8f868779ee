-- How far the lists reach that a change leaves as they are, told by the extent of them.
use Rattle.std.proofs.Common.{◌≡◌, ◌∙◌, ◌<◌, ℕ, zero, suc, Bool, true, false, true≢false, cond, not, List, length, Option, Some, None, refl, add-one, ap, sym}
use Rattle.std.proofs.Common.{subst, arith, inl, inr}
use Rattle.std.specs.Prelude.{◌≤ℤ◌}
use Rattle.std.proofs.lemmas.Bool.{cases_lt}
use Rattle.std.proofs.lemmas.Int.{ints, int_max_is, int_min_is}
use Rattle.vr_model.specs.routes.Routes.{is_empty, route}
use Rattle.vr_model.specs.declared.records.Model.{Model}
use Rattle.vr_plan.specs.Timings.{last_with, start_with}
use Rattle.vr_plan.specs.declared.extents.Extent.{Extent}
use Rattle.vr_routes.specs.Pieces.{ListAfter}
use Rattle.vr_costfilter.specs.SortedEnds.{IsReach}
use Rattle.vr_costfilter.specs.SortedVehicles.{names}
use Rattle.vr_costfilter.proofs.OrdersLemmas.{used-known}
use Rattle.vr_costfilter.proofs.ReachLemmas.{is-not}
use Rattle.vr_costfilter.specs.GlobalCosts.{vehicles_of}
use Rattle.vr_costfilter.specs.Spreads.{gives, no_spread, spread_of, spread_of_kept, with_chosen, with_kept, IsSpreadInRange}
use Rattle.vr_costfilter.specs.declared.spreads.Spread.{Spread}
use Rattle.vr_costfilter.proofs.SpreadLemmas.{kept-more, names-gives, reached, same-spread, stays}

module _ (model : Model) (lists : List (List ℕ)) (parts : List ListAfter) (d : ℕ) where
  -- one spread reaches no less far than another
  record IsWithin (s t : Spread) : Type 0 where
    pub last : s.last ≤ℤ t.last
    pub start : t.start ≤ℤ s.start
    pub span : t.span ≡ s.span

  -- it reaches over the list of a vehicle
  record Reaches (v : ℕ) (s : Spread) : Type 0 where
    pub last : last_with model d v (route lists v) ≤ℤ s.last
    pub start : s.start ≤ℤ start_with model d v (route lists v)

  -- a list more makes it no less
  grows : (s : Spread) (v : ℕ) → IsWithin s (with_kept model lists parts d s v)
  grows s v = by (gives parts v)
    where
      same : IsWithin s s
      same = record { last = omega (arith, ints); start = omega (arith, ints); span = refl }

      there : (b : Bool) → IsWithin s (cond b s (reached model d v (route lists v) s))
      there true = same
      there false =
          let a = int_max_is s.last (last_with model d v (route lists v)) in
          let b = int_min_is s.start (start_with model d v (route lists v)) in
          record { last = omega (arith, ints, a); start = omega (arith, ints, b); span = refl }

      by : (b : Bool) → IsWithin s (cond b s (with_chosen model d v (route lists v) s))
      by true = same
      by false = there (is_empty (route lists v))

  -- it reaches over that list, where it stays and is used
  reaches : (s : Spread) (v : ℕ) → gives parts v ≡ false → is_empty (route lists v) ≡ false → Reaches v (with_kept model lists parts d s v)
  reaches s v away used =
      subst (Reaches v) (sym (stays model lists parts d v s away ∙ ap (λ b. cond b s (reached model d v (route lists v) s)) used))
      (let a = int_max_is s.last (last_with model d v (route lists v)) in
      let b = int_min_is s.start (start_with model d v (route lists v)) in
      record { last = omega (arith, ints, a); start = omega (arith, ints, b) })

  -- it reaches no further than one that reaches over that list
  is-within : (s t : Spread) (v : ℕ) → IsWithin s t
      → (gives parts v ≡ false → is_empty (route lists v) ≡ false → Reaches v t) → IsWithin (with_kept model lists parts d s v) t
  is-within s t v h over = by (gives parts v) refl
    where
      there : (b : Bool) → is_empty (route lists v) ≡ b → gives parts v ≡ false → IsWithin (cond b s (reached model d v (route lists v) s)) t
      there true e away = h
      there false e away =
          let o = over away e in
          let a = int_max_is s.last (last_with model d v (route lists v)) in
          let b = int_min_is s.start (start_with model d v (route lists v)) in
          record { last = omega (arith, ints, a, o.last, h.last); start = omega (arith, ints, b, o.start, h.start); span = h.span }

      by : (b : Bool) → gives parts v ≡ b → IsWithin (cond b s (with_chosen model d v (route lists v) s)) t
      by true e = h
      by false e = there (is_empty (route lists v)) refl e

  abbrev kept : ℕ → Spread
  kept n = spread_of_kept model lists parts d n

  kept-next : (n : ℕ) → kept (suc n) ≡ with_kept model lists parts d (kept n) n
  kept-next n = sym (ap kept (add-one n)) ∙ kept-more model lists parts d n

  -- all reach at least over nothing
  kept-low : (n : ℕ) → IsWithin no_spread (kept n)
  kept-low zero = record { last = omega (arith, ints); start = omega (arith, ints); span = refl }
  kept-low (suc n) = subst (IsWithin no_spread) (sym (kept-next n)) (let a = kept-low n in let b = grows (kept n) n in
      record { last = omega (arith, ints, a.last, b.last); start = omega (arith, ints, a.start, b.start); span = b.span ∙ a.span })

  -- and over each list that stays
  kept-over : (n v : ℕ) → v < n → gives parts v ≡ false → is_empty (route lists v) ≡ false → Reaches v (kept n)
  kept-over zero v low away used = absurd (omega (arith, low))
  kept-over (suc n) v low away used = subst (Reaches v) (sym (kept-next n)) (elim (cases_lt v n) [
    | inl less ↦ (
        let h = kept-over n v less away used in
        let g = grows (kept n) n in
        record { last = omega (arith, ints, h.last, g.last); start = omega (arith, ints, h.start, g.start) })
    | inr past ↦ (
        let here : n ≡ v = omega (arith, low, past) in
        subst (λ w. Reaches v (with_kept model lists parts d (kept n) w)) (sym here) (reaches (kept n) v away used))
  ])

  kept-within : (t : Spread) → IsWithin no_spread t
      → ((v : ℕ) → gives parts v ≡ false → is_empty (route lists v) ≡ false → Reaches v t) → (n : ℕ) → IsWithin (kept n) t
  kept-within t h over zero = h
  kept-within t h over (suc n) = subst (λ s. IsWithin s t) (sym (kept-next n)) (is-within (kept n) t n (kept-within t h over n) (over n))

  -- the extent of the lists that stay is how far they reach
  pub spread-told : (extent : Option Extent) → IsReach model d lists (λ v. not (names (vehicles_of parts) v)) extent → IsSpreadInRange (spread_of extent)
      → spread_of extent ≡ spread_of_kept model lists parts d (length lists)
  spread-told extent h r = same-spread (spread_of extent) (kept (length lists)) (last extent h r) (start extent h r) (span extent)
    where
      not-named : (v : ℕ) → gives parts v ≡ false → not (names (vehicles_of parts) v) ≡ true
      not-named v away = ap not (names-gives parts v ∙ away)

      stay : (v : ℕ) → not (names (vehicles_of parts) v) ≡ true → gives parts v ≡ false
      stay v e = sym (names-gives parts v) ∙ is-not (names (vehicles_of parts) v) e

      over : (extent : Option Extent) → IsReach model d lists (λ v. not (names (vehicles_of parts) v)) extent
          → (v : ℕ) → gives parts v ≡ false → is_empty (route lists v) ≡ false → Reaches v (spread_of extent)
      over None h v away used = absurd (true≢false (sym (h v (not-named v away)) ∙ used))
      over (Some e) h v away used = record { last = h.ends v (not-named v away) used; start = h.starts v (not-named v away) used }

      least-in : (extent : Option Extent) → IsSpreadInRange (spread_of extent) → IsWithin no_spread (spread_of extent)
      least-in None r = record { last = omega (arith, ints); start = omega (arith, ints); span = refl }
      least-in (Some e) r = record { last = r.last.at_least; start = r.start.at_most; span = refl }

      within : (extent : Option Extent) → IsReach model d lists (λ v. not (names (vehicles_of parts) v)) extent
          → IsSpreadInRange (spread_of extent) → IsWithin (kept (length lists)) (spread_of extent)
      within extent h r = kept-within (spread_of extent) (least-in extent r) (over extent h) (length lists)

      last : (extent : Option Extent) → IsReach model d lists (λ v. not (names (vehicles_of parts) v)) extent
          → IsSpreadInRange (spread_of extent) → (spread_of extent).last ≡ (kept (length lists)).last
      last None h r = let w = (within None h r).last in let l = (kept-low (length lists)).last in omega (arith, ints, w, l)
      last (Some e) h r =
          let w = (within (Some e) h r).last in
          let l = (kept-over (length lists) h.last.0 (used-known lists h.last.0 h.last.2) (stay h.last.0 h.last.1) h.last.2).last in
          omega (arith, ints, w, h.last.3, l)

      start : (extent : Option Extent) → IsReach model d lists (λ v. not (names (vehicles_of parts) v)) extent
          → IsSpreadInRange (spread_of extent) → (spread_of extent).start ≡ (kept (length lists)).start
      start None h r = let w = (within None h r).start in let l = (kept-low (length lists)).start in omega (arith, ints, w, l)
      start (Some e) h r =
          let w = (within (Some e) h r).start in
          let l = (kept-over (length lists) h.first.0 (used-known lists h.first.0 h.first.2) (stay h.first.0 h.first.1) h.first.2).start in
          omega (arith, ints, w, h.first.3, l)

      span : (extent : Option Extent) → (spread_of extent).span ≡ (kept (length lists)).span
      span None = sym (kept-low (length lists)).span
      span (Some e) = sym (kept-low (length lists)).span
