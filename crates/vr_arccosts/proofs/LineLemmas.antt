-- Stretches of the lines of vehicles, and chains of their lists.
use Rattle.std.proofs.Common.{◌≡◌, ◌∙◌, ℕ, zero, suc, ◌+◌, ◌-◌, ◌<◌, ◌≤◌, Bool, List, [], ◌∷◌, ◌++◌, length, take, drop, sym, ap, ap₂, subst, arith, add-one}
use Rattle.std.proofs.Common.{length-append}
use Rattle.std.specs.Prelude.{ℤ, ◌+ℤ◌, ◌≤ℤ◌, slice_range, slice_index_or}
use Rattle.std.proofs.lemmas.Int.{ints}
use Rattle.std.proofs.lemmas.List.{get_or_append_left, get_or_default, get_or_push, take-append-le}
use Rattle.vr_model.specs.declared.records.Model.{Model}
use Rattle.vr_model.specs.tables.Tables.{arc_cost, vehicle_at}
use Rattle.vr_model.specs.routes.Routes.{route}
use Rattle.vr_balance.specs.Sums.{last_of, path_sum, line_nodes}
use Rattle.vr_arccosts.specs.Chains.{chain_of, chain_sum, first_node_or, turned}
use Rattle.vr_arccosts.specs.declared.lines.Along.{Along}
use Rattle.vr_arccosts.specs.Along.{between_cost, no_sums, AreAlong, IsAlong, IsArc}
use Rattle.vr_arccosts.proofs.PathLemmas.{stretch-used}
use Rattle.vr_arccosts.proofs.PieceLemmas.{chain-costs}

-- the arcs of a line from the stop before one place of its list to the stop at another
stretch-line : (cost : ℕ → ℕ → ℤ) (at end : ℕ) (list : List ℕ) (f b : ℕ) → f ≤ b → b ≤ length list
    → path_sum cost (last_of at (take f (list ++ end ∷ []))) (slice_range (list ++ end ∷ []) f (suc b))
    ≡ path_sum cost (last_of at (take f list)) (slice_range list f b)
    +ℤ cost (last_of (last_of at (take f list)) (slice_range list f b)) (first_node_or (drop b list) end)
stretch-line cost at end [] zero zero order low = omega (arith, ints)
stretch-line cost at end [] zero (suc b) order low = absurd (omega (arith, low))
stretch-line cost at end [] (suc f) b order low = absurd (omega (arith, order, low))
stretch-line cost at end (x ∷ xs) zero zero order low = omega (arith, ints)
stretch-line cost at end (x ∷ xs) zero (suc b) order low =
    let i = stretch-line cost x end xs zero b (omega arith) (omega (arith, low)) in
    let e : suc (suc b) - 0 ≡ suc (suc b - 0) = omega arith in
    let o : suc b - 0 ≡ suc (b - 0) = omega arith in
    let new : path_sum cost at (slice_range ((x ∷ xs) ++ end ∷ []) 0 (suc (suc b))) ≡ path_sum cost at (x ∷ slice_range (xs ++ end ∷ []) 0 (suc b)) =
    ap (λ n. path_sum cost at (take n (x ∷ xs ++ end ∷ []))) e in
    let old : path_sum cost at (slice_range (x ∷ xs) 0 (suc b)) ≡ path_sum cost at (x ∷ slice_range xs 0 b) = ap (λ n. path_sum cost at (take n (x ∷ xs))) o in
    let arc : cost (last_of at (slice_range (x ∷ xs) 0 (suc b))) (first_node_or (drop b xs) end)
    ≡ cost (last_of at (x ∷ slice_range xs 0 b)) (first_node_or (drop b xs) end) =
    ap (λ n. cost (last_of at (take n (x ∷ xs))) (first_node_or (drop b xs) end)) o in
    omega (arith, ints, i, new, old, arc)
stretch-line cost at end (x ∷ xs) (suc f) zero order low = absurd (omega (arith, order))
stretch-line cost at end (x ∷ xs) (suc f) (suc b) order low =
    let i = stretch-line cost x end xs f b (omega (arith, order)) (omega (arith, low)) in
    let e : suc (suc b) - suc f ≡ suc b - f = omega arith in
    let o : suc b - suc f ≡ b - f = omega arith in
    let new : path_sum cost (last_of x (take f (xs ++ end ∷ []))) (slice_range ((x ∷ xs) ++ end ∷ []) (suc f) (suc (suc b)))
    ≡ path_sum cost (last_of x (take f (xs ++ end ∷ []))) (slice_range (xs ++ end ∷ []) f (suc b)) =
    ap (λ n. path_sum cost (last_of x (take f (xs ++ end ∷ []))) (take n (drop f (xs ++ end ∷ [])))) e in
    let old : path_sum cost (last_of x (take f xs)) (slice_range (x ∷ xs) (suc f) (suc b)) ≡ path_sum cost (last_of x (take f xs)) (slice_range xs f b) =
    ap (λ n. path_sum cost (last_of x (take f xs)) (take n (drop f xs))) o in
    let arc : cost (last_of (last_of x (take f xs)) (slice_range (x ∷ xs) (suc f) (suc b))) (first_node_or (drop b xs) end)
    ≡ cost (last_of (last_of x (take f xs)) (slice_range xs f b)) (first_node_or (drop b xs) end) =
    ap (λ n. cost (last_of (last_of x (take f xs)) (take n (drop f xs))) (first_node_or (drop b xs) end)) o in
    omega (arith, ints, i, new, old, arc)

-- what the sums of a line give for a stretch of a list with nodes
pub stretch-kept : (model : Model) (v : ℕ) (list : List ℕ) (f b : ℕ) → f ≤ b → b ≤ length list → 0 < length list
    → path_sum (arc_cost model v) (last_of (vehicle_at model v).start (take f (line_nodes model v list))) (slice_range (line_nodes model v list) f (b + 1))
    ≡ between_cost model v list f b (slice_range list f b)
stretch-kept model v list f b order low some =
    ap (λ n. path_sum (arc_cost model v) (last_of (vehicle_at model v).start (take f (line_nodes model v list)))
    (slice_range (line_nodes model v list) f n)) (add-one b)
    ∙ (stretch-line (arc_cost model v) (vehicle_at model v).start (vehicle_at model v).end list f b order low ∙ sym (stretch-used model v list f b order some))

-- the arcs of a line between the first and the last node of a chain of its list
chain-line : (cost : ℕ → ℕ → ℤ) (at end : ℕ) (list : List ℕ) (f t : ℕ) → f < t → t ≤ length list
    → path_sum cost (last_of at (take (suc f) (list ++ end ∷ []))) (slice_range (list ++ end ∷ []) (suc f) t) ≡ chain_sum cost (slice_range list f t)
chain-line cost at end [] f t order low = absurd (omega (arith, order, low))
chain-line cost at end (x ∷ xs) f zero order low = absurd (omega (arith, order))
chain-line cost at end (x ∷ xs) zero (suc t) order low =
    let e : suc t - 1 ≡ t = omega arith in
    let o : suc t - 0 ≡ suc t = omega arith in
    let new : path_sum cost x (slice_range ((x ∷ xs) ++ end ∷ []) 1 (suc t)) ≡ path_sum cost x (take t (xs ++ end ∷ [])) =
    ap (λ n. path_sum cost x (take n (xs ++ end ∷ []))) e in
    let old : chain_sum cost (slice_range (x ∷ xs) 0 (suc t)) ≡ path_sum cost x (take t xs) = ap (λ n. chain_sum cost (take n (x ∷ xs))) o in
    new ∙ (ap (path_sum cost x) (take-append-le t xs (end ∷ []) (omega (arith, low))) ∙ sym old)
chain-line cost at end (x ∷ xs) (suc f) (suc t) order low =
    let i = chain-line cost x end xs f t (omega (arith, order)) (omega (arith, low)) in
    let e : suc t - suc (suc f) ≡ t - suc f = omega arith in
    let o : suc t - suc f ≡ t - f = omega arith in
    let new : path_sum cost (last_of x (take (suc f) (xs ++ end ∷ []))) (slice_range ((x ∷ xs) ++ end ∷ []) (suc (suc f)) (suc t))
    ≡ path_sum cost (last_of x (take (suc f) (xs ++ end ∷ []))) (slice_range (xs ++ end ∷ []) (suc f) t) =
    ap (λ n. path_sum cost (last_of x (take (suc f) (xs ++ end ∷ []))) (take n (drop (suc f) (xs ++ end ∷ [])))) e in
    let old : chain_sum cost (slice_range (x ∷ xs) (suc f) (suc t)) ≡ chain_sum cost (slice_range xs f t) = ap (λ n. chain_sum cost (take n (drop f xs))) o in
    new ∙ (i ∙ sym old)

-- what the sums of a line give for a chain, ahead or backwards
pub chain-kept : (model : Model) (v : ℕ) (list : List ℕ) (f t : ℕ) → f < t → t ≤ length list → (back : Bool)
    → path_sum (turned back (arc_cost model v)) (last_of (vehicle_at model v).start (take (f + 1) (line_nodes model v list)))
    (slice_range (line_nodes model v list) (f + 1) t)
    ≡ chain_sum (arc_cost model v) (chain_of back list f t)
chain-kept model v list f t order low back =
    let cost = turned back (arc_cost model v) in
    let nodes : List ℕ = line_nodes model v list in
    ap (λ n. path_sum cost (last_of (vehicle_at model v).start (take n nodes)) (slice_range nodes n t)) (add-one f)
    ∙ (chain-line cost (vehicle_at model v).start (vehicle_at model v).end list f t order low ∙ chain-costs (arc_cost model v) list f t back)

-- ---- the arcs of a line, one after another

pub line-long : (model : Model) (v : ℕ) (list : List ℕ) → length (line_nodes model v list) ≡ length list + 1
line-long model v list = length-append list ((vehicle_at model v).end ∷ [])

pub arc-inside : (model : Model) (v : ℕ) (list : List ℕ) (k at next : ℕ) → k < length list
    → at ≡ last_of (vehicle_at model v).start (take k list) → next ≡ slice_index_or list k 0 → IsArc model v list k at next
arc-inside model v list k at next low from to = record {
  inside = (let l = line-long model v list in omega (arith, l, low));
  from = from ∙ ap (last_of (vehicle_at model v).start) (sym (take-append-le k list ((vehicle_at model v).end ∷ []) (omega (arith, low))));
  to = to ∙ sym (get_or_append_left list ((vehicle_at model v).end ∷ []) 0 k low);
}

pub arc-last : (model : Model) (v : ℕ) (list : List ℕ) (k at next : ℕ) → k ≡ length list
    → at ≡ last_of (vehicle_at model v).start (take k list) → next ≡ (vehicle_at model v).end → IsArc model v list k at next
arc-last model v list k at next same from to = record {
  inside = (let l = line-long model v list in omega (arith, l, same));
  from = from ∙ ap (last_of (vehicle_at model v).start) (sym (take-append-le k list ((vehicle_at model v).end ∷ []) (omega (arith, same))));
  to = to ∙ sym (get_or_push list (vehicle_at model v).end 0 k (sym same));
}

-- what a measure gives of an arc of a line
pub arc-value : (model : Model) (v : ℕ) (list : List ℕ) (n at next : ℕ) → IsArc model v list n at next → (cost : ℕ → ℕ → ℤ)
    → cost at next ≡ cost (last_of (vehicle_at model v).start (take n (line_nodes model v list))) (slice_index_or (line_nodes model v list) n 0)
arc-value model v list n at next arc cost = ap (λ x. cost x next) arc.from
    ∙ ap (cost (last_of (vehicle_at model v).start (take n (line_nodes model v list)))) arc.to

-- what is told of a line by its numbers is told of the list of its vehicle
pub line-told : {m model : Model} {n v : ℕ} {l list : List ℕ} (f : Model → ℕ → List ℕ → ℤ) → m ≡ model → n ≡ v → l ≡ list → f m n l ≡ f model v list
line-told f of-model of-vehicle of-list = λ i. f (of-model i) (of-vehicle i) (of-list i)

pub least-told : {m model : Model} {n v : ℕ} {l list : List ℕ} (bound : ℤ) (f : Model → ℕ → List ℕ → ℤ)
    → m ≡ model → n ≡ v → l ≡ list → bound ≤ℤ f m n l → bound ≤ℤ f model v list
least-told bound f of-model of-vehicle of-list least = subst (λ d. bound ≤ℤ d) (line-told f of-model of-vehicle of-list) least

pub list-told : {n v : ℕ} {l list : List ℕ} (bound : ℤ) (f : ℕ → List ℕ → ℤ) → n ≡ v → l ≡ list → bound ≤ℤ f n l → bound ≤ℤ f v list
list-told bound f of-vehicle of-list least = subst (λ d. bound ≤ℤ d) (ap₂ f of-vehicle of-list) least

-- ---- the sums of one vehicle

pub along-at : (model : Model) (lists : List (List ℕ)) (along : List Along) (v : ℕ) (one : Along)
    → AreAlong model lists along → length along ≡ length lists → v < length lists → one ≡ slice_index_or along v one
    → IsAlong model v (route lists v) one
along-at model lists along v one are many low is =
    subst (IsAlong model v (route lists v)) (sym (is ∙ get_or_default along v one no_sums (omega (arith, many, low)))) (are v low)

pub many-along : (model : Model) (v : ℕ) (list : List ℕ) (one : Along) → IsAlong model v list one → length one.ahead ≡ length list + 2
many-along model v list one h = let l = line-long model v list in let m = h.ahead.many in omega (arith, l, m)

pub many-behind : (model : Model) (v : ℕ) (list : List ℕ) (one : Along) → IsAlong model v list one → length one.behind ≡ length list + 2
many-behind model v list one h = let l = line-long model v list in let m = h.behind.many in omega (arith, l, m)

-- a list whose sums are kept has at most 1000 nodes
pub few-along : (model : Model) (v : ℕ) (list : List ℕ) (one : Along) → IsAlong model v list one → length list ≤ 1000
few-along model v list one h = let m = many-along model v list one h in let f = h.ahead.range.few in omega (arith, m, f)
