-- Paths along the pieces of a list.
use Rattle.std.proofs.Common.{◌≡◌, ◌∙◌, ℕ, zero, suc, ◌+◌, ◌-◌, ◌<◌, ◌≤◌, cond, List, [], ◌∷◌, ◌++◌, length, take, drop, refl, sym, ap, arith, length-append}
use Rattle.std.specs.Prelude.{ℤ, pos, ◌+ℤ◌, ◌-ℤ◌, slice_index_or, slice_range}
use Rattle.std.proofs.lemmas.Int.{ints}
use Rattle.std.proofs.lemmas.List.{get_or-take, drop-drop, drop_all, length-drop, length-take-le, take-append-drop}
use Rattle.vr_model.specs.declared.records.Model.{Model}
use Rattle.vr_model.specs.tables.Numbers.{total_by}
use Rattle.vr_model.specs.tables.Tables.{arc_cost, vehicle_at, no_vehicle}
use Rattle.vr_model.specs.tables.WellFormed.{IsWellFormed}
use Rattle.vr_model.specs.routes.Routes.{arcs_from, cost_of_arc, is_empty, route_cost}
use Rattle.vr_balance.specs.Sums.{path_sum, last_of}
use Rattle.vr_balance.proofs.Paths.{path-append, last-append}
use Rattle.vr_parts.proofs.EmptyLemmas.{empty-where, some-where}
use Rattle.vr_arccosts.specs.Chains.{first_node_or}
use Rattle.vr_arccosts.specs.Along.{between_cost}
use Rattle.vr_arccosts.proofs.ChainLemmas.{last-at}

pub as-path : (model : Model) (v at : ℕ) (xs : List ℕ) → total_by (cost_of_arc model) (arcs_from v at xs) ≡ path_sum (arc_cost model v) at xs
as-path model v at [] = refl
as-path model v at (x ∷ xs) = ap (λ s. arc_cost model v at x +ℤ s) (as-path model v x xs)

-- the cost of a route with visits: of the path through them, and of the arc to its end
pub route-used : (model : Model) (v : ℕ) (xs : List ℕ) → 0 < length xs
    → route_cost model v xs
    ≡ path_sum (arc_cost model v) (vehicle_at model v).start xs +ℤ arc_cost model v (last_of (vehicle_at model v).start xs) (vehicle_at model v).end
route-used model v [] some = absurd (omega (arith, some))
route-used model v (x ∷ xs) some =
    let s = as-path model v (vehicle_at model v).start ((x ∷ xs) ++ (vehicle_at model v).end ∷ []) in
    let t = path-append (arc_cost model v) (vehicle_at model v).start (x ∷ xs) ((vehicle_at model v).end ∷ []) in
    omega (arith, ints, s, t)

pub route-unused : (model : Model) (v : ℕ) (xs : List ℕ) → length xs ≡ 0 → route_cost model v xs ≡ pos 0
route-unused model v [] none = refl
route-unused model v (x ∷ xs) none = absurd (omega (arith, none))

pub start-below : (model : Model) → IsWellFormed model → (v : ℕ) → v < length model.vehicles → (vehicle_at model v).start < model.nodes
start-below model well v known = (well.each_vehicle v no_vehicle known).start_in_range

pub end-below : (model : Model) → IsWellFormed model → (v : ℕ) → v < length model.vehicles → (vehicle_at model v).end < model.nodes
end-below model well v known = (well.each_vehicle v no_vehicle known).end_in_range

-- ---- a list of which both ends are kept

-- the places of a list below one, those from there on below another, and those from it on, are the list
pub whole-apart : (list : List ℕ) (f b : ℕ) → f ≤ b → take f list ++ (slice_range list f b ++ drop b list) ≡ list
whole-apart list f b order =
    let e : f + (b - f) ≡ b = omega (arith, order) in
    let rest : drop b list ≡ drop (b - f) (drop f list) = ap (λ n. drop n list) (sym e) ∙ sym (drop-drop (b - f) f list) in
    ap (λ l. take f list ++ (slice_range list f b ++ l)) rest
    ∙ ap (λ l. take f list ++ l) (take-append-drop (b - f) (drop f list)) ∙ take-append-drop f list

-- the arcs from the first of nodes on to the end of a vehicle, none where there are no nodes
abbrev tail_cost : (ℕ → ℕ → ℤ) → List ℕ → ℕ → ℤ
tail_cost cost [] end = pos 0
tail_cost cost (x ∷ xs) end = path_sum cost x xs +ℤ cost (last_of x xs) end

module _ (model : Model) (v : ℕ) where
  abbrev start : ℕ
  start = (vehicle_at model v).start

  abbrev end : ℕ
  end = (vehicle_at model v).end

  used-apart : (front nodes behind : List ℕ) → 0 < length (front ++ (nodes ++ behind))
      → route_cost model v (front ++ (nodes ++ behind))
      ≡ (path_sum (arc_cost model v) (last_of start front) nodes +ℤ arc_cost model v (last_of (last_of start front) nodes) (first_node_or behind end))
      +ℤ (path_sum (arc_cost model v) start front +ℤ tail_cost (arc_cost model v) behind end)
  used-apart front nodes behind some =
      let cost = arc_cost model v in
      let u = route-used model v (front ++ (nodes ++ behind)) some in
      let p = path-append cost start front (nodes ++ behind) in
      let q = path-append cost (last_of start front) nodes behind in
      let l = ap (λ n. cost n end) (last-append start front (nodes ++ behind) ∙ last-append (last_of start front) nodes behind) in
      let t = step behind (last_of (last_of start front) nodes) in
      omega (arith, ints, u, p, q, l, t)
    where
      step : (xs : List ℕ) (at : ℕ) → path_sum (arc_cost model v) at xs +ℤ arc_cost model v (last_of at xs) end
          ≡ arc_cost model v at (first_node_or xs end) +ℤ tail_cost (arc_cost model v) xs end
      step [] at = omega (arith, ints)
      step (x ∷ xs) at = omega (arith, ints)

  -- what the arcs between both ends cost, and what those along the ends cost
  apart : (front nodes behind : List ℕ)
      → route_cost model v (front ++ (nodes ++ behind))
      ≡ cond (is_empty (front ++ (nodes ++ behind))) (pos 0)
      (path_sum (arc_cost model v) (last_of start front) nodes +ℤ arc_cost model v (last_of (last_of start front) nodes) (first_node_or behind end))
      +ℤ (path_sum (arc_cost model v) start front +ℤ tail_cost (arc_cost model v) behind end)
  apart [] [] [] = refl
  apart [] [] (x ∷ xs) = used-apart [] [] (x ∷ xs) (omega arith)
  apart [] (x ∷ xs) behind = used-apart [] (x ∷ xs) behind (omega arith)
  apart (x ∷ xs) nodes behind = used-apart (x ∷ xs) nodes behind (omega arith)

  -- other nodes between two places of a list change its cost by what they change between the stops there
  pub cost-between : (list nodes : List ℕ) (f b : ℕ) → f ≤ b → b ≤ length list
      → route_cost model v (take f list ++ (nodes ++ drop b list)) -ℤ route_cost model v list
      ≡ between_cost model v list f b nodes -ℤ between_cost model v list f b (slice_range list f b)
  cost-between list nodes f b order high =
      let new = apart (take f list) nodes (drop b list) in
      let old = apart (take f list) (slice_range list f b) (drop b list) in
      let same = ap (route_cost model v) (whole-apart list f b order) in
      omega (arith, ints, new, old, same)

  -- what the arcs between two places of a list cost
  pub stretch-unused : (list : List ℕ) (f b : ℕ) → f ≤ b → length list ≡ 0 → between_cost model v list f b (slice_range list f b) ≡ pos 0
  stretch-unused list f b order none =
      let x : ℤ = path_sum (arc_cost model v) (last_of start (take f list)) (slice_range list f b)
      +ℤ arc_cost model v (last_of (last_of start (take f list)) (slice_range list f b)) (first_node_or (drop b list) end) in
      ap (λ e. cond e (pos 0) x) (ap is_empty (whole-apart list f b order) ∙ empty-where list none)

  pub stretch-used : (list : List ℕ) (f b : ℕ) → f ≤ b → 0 < length list
      → between_cost model v list f b (slice_range list f b)
      ≡ path_sum (arc_cost model v) (last_of start (take f list)) (slice_range list f b)
      +ℤ arc_cost model v (last_of (last_of start (take f list)) (slice_range list f b)) (first_node_or (drop b list) end)
  stretch-used list f b order some =
      let x : ℤ = path_sum (arc_cost model v) (last_of start (take f list)) (slice_range list f b)
      +ℤ arc_cost model v (last_of (last_of start (take f list)) (slice_range list f b)) (first_node_or (drop b list) end) in
      ap (λ e. cond e (pos 0) x) (ap is_empty (whole-apart list f b order) ∙ some-where list (λ e. absurd (omega (arith, some, e))))

-- how many nodes such a list has
pub many-apart : (list nodes : List ℕ) (f b : ℕ) → f ≤ b → b ≤ length list
    → length (take f list ++ (nodes ++ drop b list)) ≡ f + length nodes + (length list - b)
many-apart list nodes f b order high =
    let a = length-append (take f list) (nodes ++ drop b list) in
    let c = length-append nodes (drop b list) in
    let t = length-take-le f list (omega (arith, order, high)) in
    let d = length-drop b list in
    omega (arith, a, c, t, d)

-- the stop before a place, and the one at it
pub last-kept : (at : ℕ) (xs : List ℕ) (k : ℕ) → 0 < k → k ≤ length xs → last_of at (take k xs) ≡ slice_index_or xs (k - 1) 0
last-kept at xs zero some low = absurd (omega (arith, some))
last-kept at xs (suc k) some low =
    let e : suc k - 1 ≡ k = omega arith in
    last-at at (take (suc k) xs) k (length-take-le (suc k) xs low) ∙ get_or-take (suc k) xs k 0 (omega arith) ∙ ap (λ n. slice_index_or xs n 0) (sym e)

pub first-left : (end : ℕ) (xs : List ℕ) (k : ℕ) → k < length xs → first_node_or (drop k xs) end ≡ slice_index_or xs k 0
first-left end [] k low = absurd (omega (arith, low))
first-left end (x ∷ xs) zero low = refl
first-left end (x ∷ xs) (suc k) low = first-left end xs k (omega (arith, low))

pub none-left : (end : ℕ) (xs : List ℕ) (k : ℕ) → k ≡ length xs → first_node_or (drop k xs) end ≡ end
none-left end xs k e = ap (λ l. first_node_or l end) (drop_all k xs (omega (arith, e)))
