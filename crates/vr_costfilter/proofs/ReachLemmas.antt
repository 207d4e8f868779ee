-- From where to where vehicles reach.
use Rattle.std.proofs.Common.{◌≡◌, ◌∙◌, ◌<◌, ◌⊎◌, ℕ, Bool, true, false, true≢false, cond, not, List, [], ◌∷◌, length, map, Option, Some, None, refl, ap, sym}
use Rattle.std.proofs.Common.{subst, inl, inr, arith}
use Rattle.std.specs.Prelude.{int_lt, ℤ, ◌≤ℤ◌, filter, fold, MatchOption}
use Rattle.std.specs.Int.{int_max, int_min}
use Rattle.std.proofs.lemmas.Int.{ints, int_max_is, int_min_is}
use Rattle.vr_model.specs.tables.Numbers.{below}
use Rattle.vr_model.specs.routes.Costs.{greatest, least}
use Rattle.vr_model.specs.routes.Routes.{is_empty, route}
use Rattle.vr_model.specs.declared.records.Model.{Model}
use Rattle.vr_model.proofs.routes.Bounded.{fold-max_least, fold-min_most}
use Rattle.vr_model.proofs.tables.Members.{In, of_filter, to_below, to_filter}
use Rattle.vr_plan.specs.Extents.{used_below, IsExtent}
use Rattle.vr_plan.specs.Timings.{last_with, start_with}
use Rattle.vr_plan.specs.declared.extents.Extent.{Extent}
use Rattle.vr_plan.specs.declared.timings.Timing.{Timing}
use Rattle.vr_costfilter.specs.SortedVehicles.{first_but, names}
use Rattle.vr_costfilter.specs.SortedEnds.{beside, extent_but, extent_of, left_with, number_if_used, AreOrders, IsReach, IsTimedIfUsed}
use Rattle.vr_costfilter.specs.declared.orders.SortedEnds.{SortedEnds}
use Rattle.vr_costfilter.proofs.OrderLemmas.{first-told, none-told}
use Rattle.vr_costfilter.proofs.OrdersLemmas.{number-is, number-not, number-some, used-known}

-- a test whose denial holds fails
pub is-not : (b : Bool) → not b ≡ true → b ≡ false
is-not true e = absurd (true≢false (sym e))
is-not false e = refl

-- the lesser of two numbers is one of them, and the greater too
either : (b : Bool) (x y : ℤ) → (cond b x y ≡ x) ⊎ (cond b x y ≡ y)
either true x y = inl refl
either false x y = inr refl

min-is : (x y : ℤ) → (int_min x y ≡ x) ⊎ (int_min x y ≡ y)
min-is x y = elim (either (int_lt y x) y x) [
  | inl first ↦ inr first
  | inr second ↦ inl second
]

max-is : (x y : ℤ) → (int_max x y ≡ x) ⊎ (int_max x y ≡ y)
max-is x y = either (int_lt y x) x y

-- the first entries of other vehicles tell it
pub extent-but-is : (model : Model) (d : ℕ) (lists : List (List ℕ)) (orders : SortedEnds) → AreOrders model d lists orders
    → (vehicles : List ℕ) → IsReach model d lists (λ v. not (names vehicles v)) (extent_but vehicles orders)
extent-but-is model d lists orders are vehicles = go (first_but vehicles orders.starts) refl (first_but vehicles orders.ends) refl
  where
    go : (s : Option ℤ) → first_but vehicles orders.starts ≡ s → (l : Option ℤ)
        → first_but vehicles orders.ends ≡ l → IsReach model d lists (λ v. not (names vehicles v)) (extent_of s l)
    go None s l e = λ v away. number-not (start_with model d) lists v
        (none-told (number_if_used (start_with model d) lists) orders.starts are.starts vehicles s v (is-not (names vehicles v) away))
    go (Some x) s None e = λ v away. number-not (left_with model d) lists v
        (none-told (number_if_used (left_with model d) lists) orders.ends are.ends vehicles e v (is-not (names vehicles v) away))
    go (Some x) s (Some y) e =
        let a = first-told (number_if_used (start_with model d) lists) orders.starts are.starts vehicles x s in
        let b = first-told (number_if_used (left_with model d) lists) orders.ends are.ends vehicles y e in
        let p = number-is (start_with model d) lists a.0.0 x a.0.2 in
        let q = number-is (left_with model d) lists b.0.0 y b.0.2 in
        record {
          starts = λ v away used. a.1 v (start_with model d v (route lists v)) (is-not (names vehicles v) away) (number-some (start_with model d) lists v used);
          ends = λ v away used.
              (let l = b.1 v (left_with model d v (route lists v)) (is-not (names vehicles v) away) (number-some (left_with model d) lists v used) in
              omega (arith, ints, l));
          first = (a.0.0, ap not a.0.1, p.0, p.1);
          last = (b.0.0, ap not b.0.1, q.0, omega (arith, ints, q.1));
        }

-- the same of other lists, where those of these vehicles are the same
pub reach-same : (model : Model) (d : ℕ) (lists later : List (List ℕ)) (some : ℕ → Bool) → ((v : ℕ) → some v ≡ true → route later v ≡ route lists v)
    → (extent : Option Extent) → IsReach model d lists some extent → IsReach model d later some extent
reach-same model d lists later some same None h = λ v in_it. ap is_empty (same v in_it) ∙ h v in_it
reach-same model d lists later some same (Some e) h = record {
  starts = λ v in_it used. subst (λ l. e.start ≤ℤ start_with model d v l) (sym (same v in_it)) (h.starts v in_it (ap is_empty (sym (same v in_it)) ∙ used));
  ends = λ v in_it used. subst (λ l. last_with model d v l ≤ℤ e.last) (sym (same v in_it)) (h.ends v in_it (ap is_empty (sym (same v in_it)) ∙ used));
  first = (h.first.0, h.first.1, ap is_empty (same h.first.0 h.first.1) ∙ h.first.2, ap (start_with model d h.first.0) (same h.first.0 h.first.1) ∙ h.first.3);
  last = (h.last.0, h.last.1, ap is_empty (same h.last.0 h.last.1) ∙ h.last.2, ap (last_with model d h.last.0) (same h.last.0 h.last.1) ∙ h.last.3);
}

-- one vehicle more
module _ (model : Model) (d : ℕ) (lists : List (List ℕ)) (some more : ℕ → Bool) (v : ℕ) (grows : (u : ℕ) → some u ≡ true → more u ≡ true)
    (in_it : more v ≡ true) (only : (u : ℕ) → more u ≡ true → (u ≡ v) ⊎ (some u ≡ true)) where
  pub reach-more : (extent : Option Extent) → IsReach model d lists some extent → (timing : Option Timing)
      → IsTimedIfUsed model d v (route lists v) timing → IsReach model d lists more (beside extent timing)
  reach-more None h None unused =
      λ u is. elim (only u is) [ inl same ↦ subst (λ w. is_empty (route lists w) ≡ true) (sym same) unused | inr before ↦ h u before ]
  reach-more None h (Some t) is = record {
    starts = λ u now used. elim (only u now) [
      | inl same ↦ subst (λ w. t.start ≤ℤ start_with model d w (route lists w)) (sym same) (omega (arith, ints, is.is_timing.start))
      | inr before ↦ absurd (true≢false (sym (h u before) ∙ used))
    ];
    ends = λ u now used. elim (only u now) [
      | inl same ↦ subst (λ w. last_with model d w (route lists w) ≤ℤ t.last) (sym same) (omega (arith, ints, is.is_timing.last))
      | inr before ↦ absurd (true≢false (sym (h u before) ∙ used))
    ];
    first = (v, in_it, is.used, sym is.is_timing.start);
    last = (v, in_it, is.used, sym is.is_timing.last);
  }
  reach-more (Some e) h None unused = record {
    starts = λ u now used. elim (only u now) [
      | inl same ↦ absurd (true≢false (sym (subst (λ w. is_empty (route lists w) ≡ true) (sym same) unused) ∙ used))
      | inr before ↦ h.starts u before used
    ];
    ends = λ u now used. elim (only u now) [
      | inl same ↦ absurd (true≢false (sym (subst (λ w. is_empty (route lists w) ≡ true) (sym same) unused) ∙ used))
      | inr before ↦ h.ends u before used
    ];
    first = (h.first.0, grows h.first.0 h.first.1, h.first.2, h.first.3);
    last = (h.last.0, grows h.last.0 h.last.1, h.last.2, h.last.3);
  }
  reach-more (Some e) h (Some t) is = record {
    starts = λ u now used. elim (only u now) [
      | inl same ↦ subst (λ w. int_min e.start t.start ≤ℤ start_with model d w (route lists w))
          (sym same) (let m = int_min_is e.start t.start in omega (arith, ints, m, is.is_timing.start))
      | inr before ↦ (let m = int_min_is e.start t.start in let l = h.starts u before used in omega (arith, ints, m, l))
    ];
    ends = λ u now used. elim (only u now) [
      | inl same ↦ subst (λ w. last_with model d w (route lists w) ≤ℤ int_max e.last t.last)
          (sym same) (let m = int_max_is e.last t.last in omega (arith, ints, m, is.is_timing.last))
      | inr before ↦ (let m = int_max_is e.last t.last in let l = h.ends u before used in omega (arith, ints, m, l))
    ];
    first = elim (min-is e.start t.start) [
      | inl same ↦ (h.first.0, grows h.first.0 h.first.1, h.first.2, h.first.3 ∙ sym same)
      | inr same ↦ (v, in_it, is.used, sym is.is_timing.start ∙ sym same)
    ];
    last = elim (max-is e.last t.last) [
      | inl same ↦ (h.last.0, grows h.last.0 h.last.1, h.last.2, h.last.3 ∙ sym same)
      | inr same ↦ (v, in_it, is.used, sym is.is_timing.last ∙ sym same)
    ];
  }

-- ---- the greatest and the least of the numbers of some vehicles

fold-max-in : (f : ℕ → ℤ) (x : ℤ) (vs : List ℕ) (v : ℕ) → In vs v → f v ≤ℤ fold int_max x (map f vs)
fold-max-in f x [] v h = absurd h
fold-max-in f x (w ∷ ws) v (inl e) =
    let i = fold-max_least (int_max x (f w)) (map f ws) in
    let m = int_max_is x (f w) in
    let s : f v ≡ f w = ap f e in
    omega (arith, ints, i, m, s)
fold-max-in f x (w ∷ ws) v (inr h) = fold-max-in f (int_max x (f w)) ws v h

pub greatest-in : (f : ℕ → ℤ) (vs : List ℕ) (v : ℕ) → In vs v → f v ≤ℤ greatest (map f vs)
greatest-in f [] v h = absurd h
greatest-in f (w ∷ ws) v (inl e) = let i = fold-max_least (f w) (map f ws) in let s : f v ≡ f w = ap f e in omega (arith, ints, i, s)
greatest-in f (w ∷ ws) v (inr h) = fold-max-in f (f w) ws v h

fold-min-in : (f : ℕ → ℤ) (x : ℤ) (vs : List ℕ) (v : ℕ) → In vs v → fold int_min x (map f vs) ≤ℤ f v
fold-min-in f x [] v h = absurd h
fold-min-in f x (w ∷ ws) v (inl e) =
    let i = fold-min_most (int_min x (f w)) (map f ws) in
    let m = int_min_is x (f w) in
    let s : f v ≡ f w = ap f e in
    omega (arith, ints, i, m, s)
fold-min-in f x (w ∷ ws) v (inr h) = fold-min-in f (int_min x (f w)) ws v h

pub least-in : (f : ℕ → ℤ) (vs : List ℕ) (v : ℕ) → In vs v → least (map f vs) ≤ℤ f v
least-in f [] v h = absurd h
least-in f (w ∷ ws) v (inl e) = let i = fold-min_most (f w) (map f ws) in let s : f v ≡ f w = ap f e in omega (arith, ints, i, s)
least-in f (w ∷ ws) v (inr h) = fold-min-in f (f w) ws v h

fold-max-up : (f : ℕ → ℤ) (x y : ℤ) (vs : List ℕ) → y ≤ℤ x → ((v : ℕ) → In vs v → f v ≤ℤ x) → fold int_max y (map f vs) ≤ℤ x
fold-max-up f x y [] here h = here
fold-max-up f x y (w ∷ ws) here h =
    fold-max-up f x (int_max y (f w)) ws (let m = int_max_is y (f w) in let l = h w (inl refl) in omega (arith, ints, m, l, here)) (λ v i. h v (inr i))

fold-min-down : (f : ℕ → ℤ) (x y : ℤ) (vs : List ℕ) → x ≤ℤ y → ((v : ℕ) → In vs v → x ≤ℤ f v) → x ≤ℤ fold int_min y (map f vs)
fold-min-down f x y [] here h = here
fold-min-down f x y (w ∷ ws) here h =
    fold-min-down f x (int_min y (f w)) ws (let m = int_min_is y (f w) in let l = h w (inl refl) in omega (arith, ints, m, l, here)) (λ v i. h v (inr i))

-- a number of one of them that is no less than each is the greatest
greatest-is : (f : ℕ → ℤ) (x : ℤ) (vs : List ℕ) (v : ℕ) → In vs v → f v ≡ x → ((v : ℕ) → In vs v → f v ≤ℤ x) → x ≡ greatest (map f vs)
greatest-is f x [] v i e h = absurd i
greatest-is f x (w ∷ ws) v i e h =
    let low = greatest-in f (w ∷ ws) v i in
    let high = fold-max-up f x (f w) ws (h w (inl refl)) (λ u j. h u (inr j)) in
    omega (arith, ints, low, high, e)

least-is : (f : ℕ → ℤ) (x : ℤ) (vs : List ℕ) (v : ℕ) → In vs v → f v ≡ x → ((v : ℕ) → In vs v → x ≤ℤ f v) → x ≡ least (map f vs)
least-is f x [] v i e h = absurd i
least-is f x (w ∷ ws) v i e h =
    let high = least-in f (w ∷ ws) v i in
    let low = fold-min-down f x (f w) ws (h w (inl refl)) (λ u j. h u (inr j)) in
    omega (arith, ints, low, high, e)

-- ---- all used vehicles

some-in : (vs : List ℕ) (v : ℕ) → In vs v → 0 < length vs
some-in [] v i = absurd i
some-in (w ∷ ws) v i = omega arith

module _ (model : Model) (d : ℕ) (lists : List (List ℕ)) where
  is-used : ℕ → Bool
  is-used v = not (is_empty (route lists v))

  none-used : (vs : List ℕ) → ((v : ℕ) → is_empty (route lists v) ≡ true) → filter (λ v. not (is_empty (route lists v))) vs ≡ []
  none-used [] h = refl
  none-used (v ∷ vs) h =
      ap (λ b. cond (not b) (v ∷ filter (λ v. not (is_empty (route lists v))) vs) (filter (λ v. not (is_empty (route lists v))) vs)) (h v) ∙ none-used vs h

  among : (v : ℕ) → is_empty (route lists v) ≡ false → In (used_below lists (length lists)) v
  among v used = to_filter (λ v. not (is_empty (route lists v))) (below (length lists)) v (to_below (length lists) v (used-known lists v used)) (ap not used)

  used-is : (v : ℕ) → In (used_below lists (length lists)) v → is_empty (route lists v) ≡ false
  used-is v i = is-not (is_empty (route lists v)) (of_filter (λ v. not (is_empty (route lists v))) (below (length lists)) v i).1

  -- how far all vehicles reach is the extent of the used ones
  pub reach-all : (extent : Option Extent) → IsReach model d lists (λ v. true) extent
      → MatchOption extent (used_below lists (length lists) ≡ []) (IsExtent model lists d (used_below lists (length lists)))
  reach-all None h = none-used (below (length lists)) (λ v. h v refl)
  reach-all (Some e) h = record {
    some = some-in (used_below lists (length lists)) h.first.0 (among h.first.0 h.first.2);
    start = least-is (λ v. start_with model d v (route lists v)) e.start (used_below lists (length lists))
        h.first.0 (among h.first.0 h.first.2) h.first.3 (λ v i. h.starts v refl (used-is v i));
    last = greatest-is (λ v. last_with model d v (route lists v)) e.last (used_below lists (length lists))
        h.last.0 (among h.last.0 h.last.2) h.last.3 (λ v i. h.ends v refl (used-is v i));
  }
