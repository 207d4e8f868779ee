-- Fronts of two lists that change vehicles: what the move adds, by the gap of the other list.
use Rattle.std.proofs.Common.{◌≡◌, ◌∙◌, ℕ, zero, suc, ◌-◌, ◌<◌, ◌≤◌, List, [], ◌∷◌, ◌++◌, length, take, drop, refl, ap, ap₂, arith}
use Rattle.std.specs.Prelude.{ℤ, cond, pos, ◌+ℤ◌, ◌-ℤ◌, ◌≤ℤ◌, slice_range, slice_index_or}
use Rattle.std.proofs.lemmas.Int.{ints}
use Rattle.std.proofs.lemmas.List.{drop_all, length-take-le, get_or-take}
use Rattle.vr_model.specs.tables.Tables.{arc_cost, vehicle_at}
use Rattle.vr_model.specs.routes.Routes.{is_empty, route}
use Rattle.vr_model.specs.declared.records.Model.{Model}
use Rattle.vr_model.specs.declared.neighbours.Move.TheVariants.{Cross}
use Rattle.vr_balance.specs.Sums.{last_of, path_sum}
use Rattle.vr_routes.proofs.FactLemmas.{of_cross}
use Rattle.vr_arccosts.specs.Along.{between_cost}
use Rattle.vr_arccosts.specs.Chains.{chain_sum}
use Rattle.vr_arccosts.specs.Runs.{AddsNoLess, at_place, before_place, cross_base, fronts_added, gap_added}
use Rattle.vr_arccosts.proofs.ChainLemmas.{path-first}
use Rattle.vr_arccosts.proofs.MoveLemmas.{two-lists}
use Rattle.vr_arccosts.proofs.PathLemmas.{cost-between, last-kept}
use Rattle.vr_arccosts.proofs.RunLemmas.{bare, between-used, gap-old, stretch-sum}

-- a path through the first nodes of a list
front-path : (cost : ℕ → ℕ → ℤ) (at : ℕ) (list : List ℕ) (b : ℕ) → 1 ≤ b → b ≤ length list
    → path_sum cost at (take b list) ≡ cost at (slice_index_or list 0 0) +ℤ chain_sum cost (take b list)
front-path cost at list b some low =
    let long = length-take-le b list low in
    path-first cost at (take b list) (omega (arith, long, some))
    ∙ ap (λ n. cost at n +ℤ chain_sum cost (take b list)) (get_or-take b list 0 0 (omega (arith, some)))

module _ (model : Model) (v w : ℕ) (same : (i j : ℕ) → arc_cost model w i j ≡ arc_cost model v i j) where
  chain-same : (xs : List ℕ) → chain_sum (arc_cost model w) xs ≡ chain_sum (arc_cost model v) xs
  chain-same [] = refl
  chain-same (x ∷ xs) = along x xs
    where
      along : (x : ℕ) (xs : List ℕ) → path_sum (arc_cost model w) x xs ≡ path_sum (arc_cost model v) x xs
      along x [] = refl
      along x (y ∷ ys) = ap₂ (λ c d. c +ℤ d) (same x y) (along y ys)

  -- what the front of a list costs the other vehicle
  pub front-cost : (at : ℕ) (list : List ℕ) (a : ℕ) → 1 ≤ a → a ≤ length list
      → path_sum (arc_cost model w) at (take a list) ≡ arc_cost model w at (slice_index_or list 0 0) +ℤ chain_sum (arc_cost model v) (take a list)
  front-cost at list a some low = front-path (arc_cost model w) at list a some low
      ∙ ap (λ c. arc_cost model w at (slice_index_or list 0 0) +ℤ c) (chain-same (take a list))

  -- the front that the other vehicle gets, and the arc behind it
  front-between : (list other : List ℕ) (a b : ℕ) → 1 ≤ a → a ≤ length list
      → between_cost model w other 0 b (take a list)
      ≡ path_sum (arc_cost model w) (vehicle_at model w).start (take a list)
      +ℤ arc_cost model w (last_of (vehicle_at model w).start (take a list)) (at_place model w other b)
  front-between list other a b one within =
      let long = length-take-le a list within in
      between-used model w other 0 b (take a list) (omega (arith, long, one))

  pub cross-between : (list other : List ℕ) (a b : ℕ) → 1 ≤ a → a ≤ length list → 1 ≤ b → b ≤ length other
      → cross_base model v list w other a +ℤ gap_added model w other (at_place model v list a) (last_of (vehicle_at model w).start (take a list)) b
      ≡ (between_cost model v list 0 a (take b other) -ℤ between_cost model v list 0 a (slice_range list 0 a))
      +ℤ (between_cost model w other 0 b (take a list) -ℤ between_cost model w other 0 b (slice_range other 0 b))
  cross-between list other a b one within some low =
      let cost = arc_cost model v in
      let start = (vehicle_at model v).start in
      let last = last_of (vehicle_at model w).start (take a list) in
      let end : ℕ = at_place model w other b in
      let to : ℕ = at_place model v list a in
      let x : ℕ = slice_index_or other (b - 1) 0 in
      let long = length-take-le b other low in
      let mine = between-used model v list 0 a (take b other) (omega (arith, long, some)) in
      let path = front-path cost start other b some low in
      let mine-last : cost (last_of start (take b other)) to ≡ cost x to = ap (λ n. cost n to) (last-kept start other b some low) in
      let his = front-between list other a b one within in
      let old = stretch-sum model w other 0 b some low in
      let old-path = front-path (arc_cost model w) (vehicle_at model w).start other b some low in
      let chain = chain-same (take b other) in
      let gap = gap-old model w other b low (omega (arith, some, low)) in
      let front = last-kept (vehicle_at model w).start other b some low in
      let gap-from : arc_cost model w (before_place model w other b) end ≡ arc_cost model w x end = ap (λ n. arc_cost model w n end) front in
      let gap-to : arc_cost model w (before_place model w other b) to ≡ cost x to = ap (λ n. arc_cost model w n to) front ∙ same x to in
      omega (arith, ints, mine, path, mine-last, his, old, old-path, chain, gap, gap-from, gap-to)

  -- an empty front, and one that leaves the other list a visit
  cross-first : (list other : List ℕ) (b : ℕ) → 1 ≤ b → b < length other
      → cross_base model v list w other 0 +ℤ gap_added model w other (at_place model v list 0) (vehicle_at model w).start b
      ≡ (between_cost model v list 0 0 (take b other) -ℤ between_cost model v list 0 0 (slice_range list 0 0))
      +ℤ (between_cost model w other 0 b [] -ℤ between_cost model w other 0 b (slice_range other 0 b))
  cross-first list other b some less =
      let cost = arc_cost model v in
      let start = (vehicle_at model v).start in
      let end : ℕ = at_place model w other b in
      let to : ℕ = at_place model v list 0 in
      let x : ℕ = slice_index_or other (b - 1) 0 in
      let low : b ≤ length other = omega (arith, less) in
      let long = length-take-le b other low in
      let mine = between-used model v list 0 0 (take b other) (omega (arith, long, some)) in
      let path = front-path cost start other b some low in
      let mine-last : cost (last_of start (take b other)) to ≡ cost x to = ap (λ n. cost n to) (last-kept start other b some low) in
      let his = bare model w other 0 b (omega arith) low (omega (arith, less)) in
      let old = stretch-sum model w other 0 b some low in
      let old-path = front-path (arc_cost model w) (vehicle_at model w).start other b some low in
      let chain = chain-same (take b other) in
      let gap = gap-old model w other b low (omega (arith, some, low)) in
      let front = last-kept (vehicle_at model w).start other b some low in
      let gap-from : arc_cost model w (before_place model w other b) end ≡ arc_cost model w x end = ap (λ n. arc_cost model w n end) front in
      let gap-to : arc_cost model w (before_place model w other b) to ≡ cost x to = ap (λ n. arc_cost model w n to) front ∙ same x to in
      omega (arith, ints, mine, path, mine-last, his, old, old-path, chain, gap, gap-from, gap-to)

module _ (model : Model) (lists : List (List ℕ)) where
  pub first-no-less : (v w b : ℕ) (bound base : ℤ) → ((i j : ℕ) → arc_cost model w i j ≡ arc_cost model v i j) → 1 ≤ b → b < length (route lists w)
      → base ≡ cross_base model v (route lists v) w (route lists w) 0
      → bound ≤ℤ (base +ℤ gap_added model w (route lists w) (at_place model v (route lists v) 0) (vehicle_at model w).start b)
      → AddsNoLess model lists (Cross v 0 w b) bound
  first-no-less v w b bound base same some less is low one =
      let list : List ℕ = route lists v in
      let other : List ℕ = route lists w in
      let facts = of_cross model lists v 0 w b one in
      let both = cross-first model v w same list other b some less in
      let mine = cost-between model v list (take b other) 0 0 (omega arith) (omega arith) in
      let his = cost-between model w other [] 0 b (omega arith) facts.other_gap in
      let added = two-lists model lists (Cross v 0 w b) v w (take b other ++ list) (drop b other) facts.vehicle facts.other facts.apart refl in
      omega (arith, ints, both, mine, his, added, is, low)

  pub cross-no-less : (v a w b : ℕ) (bound base : ℤ) → ((i j : ℕ) → arc_cost model w i j ≡ arc_cost model v i j) → 1 ≤ a → 1 ≤ b
      → base ≡ cross_base model v (route lists v) w (route lists w) a
      → bound
      ≤ℤ (base +ℤ gap_added model w (route lists w) (at_place model v (route lists v) a) (last_of (vehicle_at model w).start (take a (route lists v))) b)
      → AddsNoLess model lists (Cross v a w b) bound
  cross-no-less v a w b bound base same first some is low one =
      let list : List ℕ = route lists v in
      let other : List ℕ = route lists w in
      let facts = of_cross model lists v a w b one in
      let both = cross-between model v w same list other a b first facts.gap some facts.other_gap in
      let mine = cost-between model v list (take b other) 0 a (omega arith) facts.gap in
      let his = cost-between model w other (take a list) 0 b (omega arith) facts.other_gap in
      let added = two-lists model lists (Cross v a w b) v w (take b other ++ drop a list)
      (take a list ++ drop b other) facts.vehicle facts.other facts.apart refl in
      omega (arith, ints, both, mine, his, added, is, low)

  -- the front of either length
  pub fronts-no-less : (v a w b : ℕ) (bound base : ℤ) → ((i j : ℕ) → arc_cost model w i j ≡ arc_cost model v i j) → 1 ≤ b → (a ≡ 0 → b < length (route lists w))
      → base ≡ cross_base model v (route lists v) w (route lists w) a
      → bound
      ≤ℤ (base +ℤ gap_added model w (route lists w) (at_place model v (route lists v) a) (last_of (vehicle_at model w).start (take a (route lists v))) b)
      → AddsNoLess model lists (Cross v a w b) bound
  fronts-no-less v zero w b bound base same some left is low = first-no-less v w b bound base same some (left refl) is low
  fronts-no-less v (suc a) w b bound base same some left is low = cross-no-less v (suc a) w b bound base same (omega arith) some is low

-- what both fronts cost that change vehicles with different costs
module _ (model : Model) where
  pub front-given : (v : ℕ) (list other : List ℕ) (a b : ℕ) → 1 ≤ b → b ≤ length other
      → between_cost model v list 0 a (take b other)
      ≡ arc_cost model v (vehicle_at model v).start (slice_index_or other 0 0) +ℤ chain_sum (arc_cost model v) (take b other)
      +ℤ arc_cost model v (slice_index_or other (b - 1) 0) (at_place model v list a)
  front-given v list other a b some low =
      let cost = arc_cost model v in
      let start = (vehicle_at model v).start in
      let to : ℕ = at_place model v list a in
      let long = length-take-le b other low in
      let used = between-used model v list 0 a (take b other) (omega (arith, long, some)) in
      let path = front-path cost start other b some low in
      let last : cost (last_of start (take b other)) to ≡ cost (slice_index_or other (b - 1) 0) to = ap (λ n. cost n to) (last-kept start other b some low) in
      omega (arith, ints, used, path, last)

  pub front-left : (w : ℕ) (list other : List ℕ) (a b : ℕ) → a ≤ length list → b ≤ length other → (a ≡ 0 → b < length other)
      → between_cost model w other 0 b (take a list)
      ≡ path_sum (arc_cost model w) (vehicle_at model w).start (take a list)
      +ℤ arc_cost model w (last_of (vehicle_at model w).start (take a list)) (at_place model w other b)
  front-left w list other zero b within low some =
      let less = some refl in
      let is = bare model w other 0 b (omega arith) low (omega (arith, less)) in
      omega (arith, ints, is)
  front-left w list other (suc a) b within low some =
      let long = length-take-le (suc a) list within in
      between-used model w other 0 b (take (suc a) list) (omega (arith, long))

  pub front-gone : (w : ℕ) (list other : List ℕ) (a b : ℕ) → a ≡ 0 → b ≡ length other → between_cost model w other 0 b (take a list) ≡ pos 0
  front-gone w list other a b none all =
      let x : ℤ = path_sum (arc_cost model w) (before_place model w other 0) []
      +ℤ arc_cost model w (last_of (before_place model w other 0) []) (at_place model w other b) in
      ap (λ n. between_cost model w other 0 b (take n list)) none
      ∙ ap (λ e. cond e (pos 0) x) (ap is_empty (drop_all b other (omega (arith, all))))

  pub front-sum : (w : ℕ) (list : List ℕ) (a : ℕ) → 1 ≤ a → a ≤ length list
      → path_sum (arc_cost model w) (vehicle_at model w).start (take a list)
      ≡ arc_cost model w (vehicle_at model w).start (slice_index_or list 0 0) +ℤ chain_sum (arc_cost model w) (take a list)
  front-sum w list a some low = front-path (arc_cost model w) (vehicle_at model w).start list a some low

  pub fronts-told : (lists : List (List ℕ)) (v a w b : ℕ) (bound : ℤ)
      → bound ≤ℤ fronts_added model v (route lists v) w (route lists w) a b → AddsNoLess model lists (Cross v a w b) bound
  fronts-told lists v a w b bound low one =
      let list : List ℕ = route lists v in
      let other : List ℕ = route lists w in
      let facts = of_cross model lists v a w b one in
      let mine = cost-between model v list (take b other) 0 a (omega arith) facts.gap in
      let his = cost-between model w other (take a list) 0 b (omega arith) facts.other_gap in
      let added = two-lists model lists (Cross v a w b) v w (take b other ++ drop a list)
      (take a list ++ drop b other) facts.vehicle facts.other facts.apart refl in
      omega (arith, ints, mine, his, added, low)
