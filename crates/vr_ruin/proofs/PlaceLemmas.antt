-- Places at which too much is added are passed over.
use Rattle.std.proofs.Common.{◌≡◌, ◌∙◌, ◌<◌, ◌≤◌, ◌+◌, ◌-◌, ℕ, zero, suc, List, [], ◌∷◌, Bool, true, false, cond, Option, Some, None, inl, inr, refl, ap, ap₂}
use Rattle.std.proofs.Common.{sym, subst, arith, length, map, ℤ, pos}
use Rattle.std.specs.Prelude.{◌&&◌, ◌||◌, ◌==◌, ◌^◌, ◌≤ℤ◌, ◌<ℤ◌, ◌+ℤ◌, int_le, int_lt}
use Rattle.std.proofs.lemmas.Int.{ints}
use Rattle.std.proofs.lemmas.Bool.Decides.{eqb_tells}
use Rattle.vr_model.specs.declared.records.Model.{Model}
use Rattle.vr_model.specs.tables.Numbers.{from_to, is_lex_less}
use Rattle.vr_model.specs.routes.Routes.{is_empty}
use Rattle.vr_model.specs.routes.Rules.{is_route_open}
use Rattle.vr_model.proofs.tables.Ranges.{first_left}
use Rattle.vr_ruin.specs.declared.placing.Offer.{Offer}
use Rattle.vr_ruin.specs.declared.placing.Placing.{Placing}
use Rattle.vr_ruin.specs.declared.placing.Placing.TheVariants.{One, Two}
use Rattle.vr_model.specs.tables.Tables.{arc_cost}
use Rattle.vr_ruin.specs.Arcs.{IsArcAt}
use Rattle.vr_ruin.specs.Increases.{arc_cost_at, detour, node_after, node_before, visit_increase}
use Rattle.vr_ruin.specs.Placings.{best_of, bound_for, key_of, no_more_than, offer_for, placed, weigh, IsAbove}
use Rattle.vr_ruin.proofs.IncreaseLemmas.{increase-is}

-- ---- tests of numbers

not-before : (x y : ℤ) (rest : Bool) → (int_lt x y || (int_le x y && rest)) ≡ false → y ≤ℤ x
not-before x y rest e = Prim.grind (arith, ints)

before-not : (x y : ℤ) (rest : Bool) → y <ℤ x → (int_lt x y || (int_le x y && rest)) ≡ false
before-not x y rest less = Prim.grind (arith, ints)

over : (x limit : ℤ) → limit <ℤ x → int_le x limit ≡ false
over x limit less = Prim.grind (arith, ints)

later : (limit x y : ℤ) → limit <ℤ x → x ≤ℤ y → limit <ℤ y
later limit x y less low = omega (arith, ints, less, low)

not-same : (s u : ℕ) → s < u → (s == u) ≡ false
not-same s u after = Prim.grind (arith, after)

-- an arc between neighbours is the one at their place
pub arc-at : (model : Model) (v : ℕ) (list : List ℕ) (t a b : ℕ) (x : ℤ) → a ≡ node_before model v list t → b ≡ node_after model v list t
    → x ≡ cond (is_empty list) (pos 0) (arc_cost model v a b) → pos 0 ≤ℤ x → x ≤ℤ pos (2 ^ 40) → IsArcAt model v list t x
arc-at model v list t a b x before after is low high = record {
  value = is ∙ ap₂ (λ a b. cond (is_empty list) (pos 0) (arc_cost model v a b)) before after;
  low = low;
  high = high;
}

-- one place more
pub more-above : (P : ℕ → Type 0) (t place : ℕ) → ((u : ℕ) → t ≤ u → u < place → P u) → P place → (u : ℕ) → t ≤ u → u < place + 1 → P u
more-above P t place before here u low high = elim (eqb_tells u place) [
  | inl e ↦ subst P (sym e.1) here
  | inr e ↦ before u low (let f = e.1 in omega (arith, high, f))
]

-- no offer is none within a limit too
pub none-stays-within : {best : Option Offer} (limit : Option ℤ) → None ≡ best → None ≡ no_more_than limit best
none-stays-within {best} None e = e
none-stays-within {best} (Some limit) e = ap (no_more_than (Some limit)) e

module _ (model : Model) (v : ℕ) (list : List ℕ) where
  abbrev at : Placing → Offer
  at p = offer_for model v list p

  -- ---- an offer over the limit may be forgotten

  module _ (limit : ℤ) where
    abbrev kept : Option Offer → Option Offer
    kept best = no_more_than (Some limit) best

    forgotten : (xs : List Placing) (o : Offer) → limit <ℤ o.increase → kept (best_of model v list (Some o) xs) ≡ kept (best_of model v list None xs)
    forgotten [] o more = ap (λ b. cond b (Some o) None) (over o.increase limit more)
    forgotten (x ∷ xs) o more =
        by (is_route_open model v (placed list x)) (is_lex_less (key_of (at x)) (key_of o)) refl (forgotten xs o more) (λ new. forgotten xs (at x) new)
      where
        by : (b c : Bool) → is_lex_less (key_of (at x)) (key_of o) ≡ c → kept (best_of model v list (Some o) xs) ≡ kept (best_of model v list None xs)
            → (limit <ℤ (at x).increase → kept (best_of model v list (Some (at x)) xs) ≡ kept (best_of model v list None xs))
            → kept (best_of model v list (cond b (Some (cond c (at x) o)) (Some o)) xs) ≡ kept (best_of model v list (cond b (Some (at x)) None) xs)
        by false c e old new = old
        by true true e old new = refl
        by true false e old new = old ∙ sym (new (later limit o.increase (at x).increase more (not-before (at x).increase o.increase _ e)))

  -- ---- a place that adds more than the bound

  -- it is not better than the best so far
  no-better : (o : Offer) (p : Placing) → o.increase <ℤ (at p).increase → weigh model list (Some o) (at p) ≡ Some o
  no-better o p more = by (is_route_open model v (placed list p)) (is_lex_less (key_of (at p)) (key_of o)) (before-not (at p).increase o.increase _ more)
    where
      by : (b c : Bool) → c ≡ false → cond b (Some (cond c (at p) o)) (Some o) ≡ Some o
      by true c e = ap (λ c. Some (cond c (at p) o)) e
      by false c e = refl

  passed : (limit : Option ℤ) (best : Option Offer) (p : Placing) (ps : List Placing) → IsAbove (bound_for best limit) (at p).increase
      → no_more_than limit (best_of model v list best (p ∷ ps)) ≡ no_more_than limit (best_of model v list best ps)
  passed limit (Some o) p ps more = ap (λ b. no_more_than limit (best_of model v list b ps)) (no-better o p more)
  passed None None p ps more = absurd (cc)
  passed (Some limit) None p ps more = by (is_route_open model v (placed list p))
    where
      by : (b : Bool) → kept limit (best_of model v list (cond b (Some (at p)) None) ps) ≡ kept limit (best_of model v list None ps)
      by true = forgotten limit ps (at p) more
      by false = refl

  -- ---- places in turn

  -- all placings that are passed over, each by its number
  pub passed-by : (f : ℕ → Placing) (limit : Option ℤ) (best : Option Offer) (t n : ℕ) → t + n ≤ suc (length list)
      → ((u : ℕ) → t ≤ u → u < t + n → IsAbove (bound_for best limit) (at (f u)).increase)
      → no_more_than limit (best_of model v list best (map f (from_to (t + n) (suc (length list)))))
      ≡ no_more_than limit (best_of model v list best (map f (from_to t (suc (length list)))))
  passed-by f limit best t zero within above =
      let e : t + 0 ≡ t = omega arith in
      ap (λ a. no_more_than limit (best_of model v list best (map f (from_to a (suc (length list)))))) e
  passed-by f limit best t (suc n) within above =
      let e : t + suc n ≡ (t + 1) + n = omega arith in
      ap (λ a. no_more_than limit (best_of model v list best (map f (from_to a (suc (length list)))))) e
      ∙ passed-by f limit best (t + 1) n (omega (arith, within)) (λ u low high. above u (omega (arith, low)) (omega (arith, high)))
      ∙ sym (passed limit best (f t) (map f (from_to (t + 1) (suc (length list)))) (above t (omega arith) (omega arith)))
      ∙ sym (first_left t (suc (length list)) (omega (arith, within)) (λ us. no_more_than limit (best_of model v list best (map f us))))

  -- all places that are passed over
  pub passed-over : (limit : Option ℤ) (best : Option Offer) (x t n : ℕ) → t + n ≤ suc (length list)
      → ((u : ℕ) → t ≤ u → u < t + n → IsAbove (bound_for best limit) (visit_increase model v list x u))
      → no_more_than limit (best_of model v list best (map (One x) (from_to (t + n) (suc (length list)))))
      ≡ no_more_than limit (best_of model v list best (map (One x) (from_to t (suc (length list)))))
  passed-over limit best x t n within above = passed-by (One x) limit best t n within (λ u low high.
      subst (IsAbove (bound_for best limit)) (increase-is model v list (One x u) (omega (arith, within, high))) (above u low high))

  -- the same up to a place that is found
  pub passed-to : (limit : Option ℤ) (best : Option Offer) (bound : Option ℤ) (x t place : ℕ)
      → bound ≡ bound_for best limit → t ≤ place → place ≤ suc (length list)
      → ((u : ℕ) → t ≤ u → u < place → IsAbove bound (visit_increase model v list x u))
      → no_more_than limit (best_of model v list best (map (One x) (from_to place (suc (length list)))))
      ≡ no_more_than limit (best_of model v list best (map (One x) (from_to t (suc (length list)))))
  passed-to limit best bound x t place is low high above =
      let e : place ≡ t + (place - t) = omega (arith, low) in
      ap (λ a. no_more_than limit (best_of model v list best (map (One x) (from_to a (suc (length list)))))) e
      ∙ passed-over limit best x t (place - t) (omega (arith, low, high))
      (λ u from to. subst (λ b. IsAbove b (visit_increase model v list x u)) is (above u from (omega (arith, to, low))))

  -- ---- a pair whose delivery is not before the place of its pickup

  -- what it adds is what its nodes add alone
  apart-is : (p d s u : ℕ) → s < u → u ≤ length list → visit_increase model v list p s +ℤ visit_increase model v list d u ≡ (at (Two p d s u)).increase
  apart-is p d s u after within =
      ap (λ b. cond b (arc_cost model v (node_before model v list s) p +ℤ detour model v p d (node_after model v list s) (arc_cost_at model v list s))
      (visit_increase model v list p s +ℤ visit_increase model v list d u)) (sym (not-same s u after))
      ∙ increase-is model v list (Two p d s u) ((omega (arith, after)), within)

  pub delivery-passed-to : (best : Option Offer) (bound : Option ℤ) (p d s t place : ℕ) (alone : ℤ)
      → alone ≡ visit_increase model v list p s → s < t → t ≤ place → place ≤ suc (length list)
      → ((x : ℤ) → IsAbove bound x → IsAbove (bound_for best None) (alone +ℤ x))
      → ((u : ℕ) → t ≤ u → u < place → IsAbove bound (visit_increase model v list d u))
      → best_of model v list best (map (Two p d s) (from_to place (suc (length list))))
      ≡ best_of model v list best (map (Two p d s) (from_to t (suc (length list))))
  delivery-passed-to best bound p d s t place alone is after low high further above =
      let e : place ≡ t + (place - t) = omega (arith, low) in
      ap (λ a. best_of model v list best (map (Two p d s) (from_to a (suc (length list))))) e
      ∙ passed-by (Two p d s) None best t (place - t) (omega (arith, low, high)) (λ u from to.
      let here : u < place = omega (arith, to, low) in
      subst (IsAbove (bound_for best None))
      (ap (λ a. a +ℤ visit_increase model v list d u) is ∙ apart-is p d s u (omega (arith, after, from)) (omega (arith, here, high)))
      (further (visit_increase model v list d u) (above u from here)))
