-- Sums along the lists of vehicles.
use Rattle.std.proofs.Common.{◌≡◌, ◌∙◌, ◌⊎◌, inl, inr, ℕ, zero, suc, ◌+◌, ◌-◌, ◌*◌, ◌^◌, ◌<◌, ◌≤◌, List, [], ◌∷◌, ◌++◌, length, take, drop, refl, sym, ap}
use Rattle.std.proofs.Common.{subst, arith, length-append, append_assoc, to_z, of_z}
use Rattle.std.specs.Int.{w128, int_max}
use Rattle.std.specs.Prelude.{ℤ, pos, ◌+ℤ◌, ◌-ℤ◌, ◌≤ℤ◌, neg_ℤ, slice_range}
use Rattle.std.proofs.lemmas.Int.{ints, clamps}
use Rattle.std.proofs.lemmas.Bool.{cases_lt}
use Rattle.std.proofs.lemmas.Bool.Decides.{eqb_tells}
use Rattle.std.proofs.lemmas.List.{drop-append-le, drop-drop, get_or_append_left, get_or_push, length-drop, length-take-le, take-append-drop, take-append-le}
use Rattle.std.proofs.lemmas.List.{take_all}
use Rattle.std.proofs.Math.Seq.{take-append-add}
use Rattle.vr_model.specs.tables.Numbers.{number_at, total_by}
use Rattle.vr_model.specs.tables.WellFormed.{IsIn}
use Rattle.vr_model.specs.routes.Routes.{UsedArc, arcs_from}
use Rattle.vr_guided.specs.Sums.{AreArcSums, HaveWideRange}
use Rattle.vr_balance.specs.Sums.{last_of}
use Rattle.vr_guided.proofs.LocalChanges.{along, along_split}

-- the first few of a list, and those from there up to another place
take-between : (xs : List ℕ) (a b : ℕ) → a ≤ b → take b xs ≡ take a xs ++ slice_range xs a b
take-between xs zero b order = ap (λ n. take n xs) (same b)
  where
    same : (n : ℕ) → n ≡ n - 0
    same n = omega arith
take-between [] (suc a) b order = nothing b ∙ sym (nothing (b - suc a))
  where
    nothing : (n : ℕ) → take {A = ℕ} n [] ≡ []
    nothing zero = refl
    nothing (suc n) = refl
take-between (x ∷ xs) (suc a) zero order = absurd (omega (arith, order))
take-between (x ∷ xs) (suc a) (suc b) order =
    let less : b - a ≡ suc b - suc a = omega arith in
    ap (λ ys. x ∷ ys) (take-between xs a b (omega (arith, order)) ∙ ap (λ n. take a xs ++ take n (drop a xs)) less)

module _ (f : UsedArc → ℤ) (v node : ℕ) where
  -- at its start nothing was added
  pub sums-begin : AreArcSums f v node [] (pos 0 ∷ [])
  sums-begin = record { many = refl; each = at }
    where
      at : (k : ℕ) → k ≤ 0 → number_at (pos 0 ∷ []) k ≡ total_by f (arcs_from v node (take k []))
      at zero under = refl
      at (suc n) under = absurd (never n under)
        where
          never : (n : ℕ) → suc n ≤ 0 → ⊥
          never n h = omega (arith, h)

  -- one more stop
  pub sums-push : (nodes : List ℕ) (next : ℕ) (sums new : List ℤ) (w : ℤ) → AreArcSums f v node nodes sums
      → w ≡ f (record { vehicle = v; origin = last_of node nodes; target = next })
      → new ≡ sums ++ (number_at sums (length sums - 1) +ℤ w) ∷ [] → AreArcSums f v node (nodes ++ next ∷ []) new
  sums-push nodes next sums new w are here is =
      subst (AreArcSums f v node (nodes ++ next ∷ [])) (sym is) (record {
        many = length-append sums (last ∷ []) ∙ (ap (λ n. n + 1) are.many ∙ (one_more (length nodes) ∙ ap suc (sym (length-append nodes (next ∷ [])))));
        each = λ k under. go k under (cases_lt k (length sums));
      })
    where
      last : ℤ
      last = number_at sums (length sums - 1) +ℤ w

      one_more : (n : ℕ) → suc n + 1 ≡ suc (n + 1)
      one_more n = omega arith

      whole : length (nodes ++ next ∷ []) ≡ length nodes + 1
      whole = length-append nodes (next ∷ [])

      value : last ≡ along f v node (nodes ++ next ∷ [])
      value =
          let many = are.many in
          let place : length sums - 1 ≡ length nodes = omega (arith, many) in
          let before : number_at sums (length sums - 1) ≡ along f v node nodes = ap (number_at sums) place
          ∙ (are.each (length nodes) (omega arith) ∙ ap (along f v node) (take_all (length nodes) nodes (omega arith))) in
          let sum : along f v node (nodes ++ next ∷ [])
          ≡ along f v node nodes +ℤ (f (record { vehicle = v; origin = last_of node nodes; target = next }) +ℤ pos 0) = along_split f
          v node nodes (next ∷ []) in
          omega (arith, ints, sum, here, before)

      go : (k : ℕ) → k ≤ length (nodes ++ next ∷ []) → (k < length sums) ⊎ (length sums ≤ k)
          → number_at (sums ++ last ∷ []) k ≡ along f v node (take k (nodes ++ next ∷ []))
      go k under (inl low) =
          let many = are.many in
          let few : k ≤ length nodes = omega (arith, low, many) in
          get_or_append_left sums (last ∷ []) (pos 0) k low ∙ (are.each k few ∙ ap (along f v node) (sym (take-append-le k nodes (next ∷ []) few)))
      go k under (inr high) =
          let many = are.many in
          let all = whole in
          let at : length sums ≡ k = omega (arith, high, many, under, all) in
          get_or_push sums last (pos 0) k at ∙ (value ∙ ap (along f v node) (sym (take_all k (nodes ++ next ∷ []) (omega (arith, high, many, all)))))

  -- what the arcs between two places add up to
  pub sums-between : (nodes : List ℕ) (sums : List ℤ) (a b : ℕ) → AreArcSums f v node nodes sums → a ≤ b → b < length sums
      → number_at sums b -ℤ number_at sums a ≡ along f v (last_of node (take a nodes)) (slice_range nodes a b)
  sums-between nodes sums a b are order low =
      let many = are.many in
      let x = are.each b (omega (arith, low, many)) in
      let y = are.each a (omega (arith, low, order, many)) in
      let parts = ap (along f v node) (take-between nodes a b order) ∙ along_split f v node (take a nodes) (slice_range nodes a b) in
      omega (arith, ints, x, y, parts)

-- one sum more is in range
pub range-push : (sums : List ℤ) (w : ℤ) → HaveWideRange sums → 1 ≤ length sums
    → IsIn (pos 0) (pos (2 ^ 70)) w → HaveWideRange (sums ++ (number_at sums (length sums - 1) +ℤ w) ∷ [])
range-push sums w range some in_range k under = go (cases_lt k (length sums))
  where
    last : ℤ
    last = number_at sums (length sums - 1) +ℤ w

    before : IsIn (pos 0) (pos ((length sums - 1) * 2 ^ 70)) (number_at sums (length sums - 1))
    before = range (length sums - 1) (omega (arith, some))

    high : last ≤ℤ pos (length sums * 2 ^ 70)
    high =
        let most = before.at_most in
        let more = in_range.at_most in
        omega (arith, ints, most, more, some)

    low : pos 0 ≤ℤ last
    low = let least = before.at_least in let more = in_range.at_least in omega (arith, ints, least, more)

    go : (k < length sums) ⊎ (length sums ≤ k) → IsIn (pos 0) (pos (k * 2 ^ 70)) (number_at (sums ++ last ∷ []) k)
    go (inl less) = subst (IsIn (pos 0) (pos (k * 2 ^ 70))) (sym (get_or_append_left sums (last ∷ []) (pos 0) k less)) (range k less)
    go (inr there) =
        let all = length-append sums (last ∷ []) in
        let at : length sums ≡ k = omega (arith, there, under, all) in
        subst (IsIn (pos 0) (pos (k * 2 ^ 70))) (sym (get_or_push sums last (pos 0) k at))
        (subst (λ n. IsIn (pos 0) (pos (n * 2 ^ 70)) last) at (record { at_least = low; at_most = high }))

-- ---- in 128 bits

-- a difference of two sums is read as it is
pub read-between : (x y : ℤ) (a b : ℕ) → IsIn (pos 0) (pos (a * 2 ^ 70)) x → IsIn (pos 0) (pos (b * 2 ^ 70)) y → a ≤ 1001 → b ≤ 1001
    → to_z w128 (of_z w128 (to_z w128 (of_z w128 x) -ℤ to_z w128 (of_z w128 y))) ≡ x -ℤ y
read-between x y a b hx hy few_a few_b =
    let x_low = hx.at_least in
    let x_high = hx.at_most in
    let y_low = hy.at_least in
    let y_high = hy.at_most in
    let x_top : x ≤ℤ pos (1001 * 2 ^ 70) = omega (arith, ints, x_high, few_a) in
    let y_top : y ≤ℤ pos (1001 * 2 ^ 70) = omega (arith, ints, y_high, few_b) in
    omega (arith, ints, x_low, x_top, y_low, y_top)

-- a sum and what one more arc adds
pub read-more : (x w : ℤ) (a : ℕ) → IsIn (pos 0) (pos (a * 2 ^ 70)) x → IsIn (pos 0) (pos (2 ^ 70)) w → a ≤ 1001
    → to_z w128 (of_z w128 (to_z w128 (of_z w128 x) +ℤ to_z w128 (of_z w128 w))) ≡ x +ℤ w
read-more x w a hx hw few =
    let x_low = hx.at_least in
    let x_high = hx.at_most in
    let w_low = hw.at_least in
    let w_high = hw.at_most in
    let x_top : x ≤ℤ pos (1001 * 2 ^ 70) = omega (arith, ints, x_high, few) in
    omega (arith, ints, x_low, x_top, w_low, w_high)

-- a stretch of a list, as one of the list and the end behind it
pub stretch-line_nodes : (front behind end next : ℕ) (list others : List ℕ)
    → front ≤ behind → behind ≤ length list → drop behind list ++ end ∷ [] ≡ next ∷ others
    → slice_range (list ++ end ∷ []) front (behind + 1) ≡ slice_range list front behind ++ next ∷ []
stretch-line_nodes front behind end next list others order high first =
    ap (λ n. take n (drop front (list ++ end ∷ []))) count
    ∙ (ap (take (length middle + 1))
    (drop-append-le front list (end ∷ []) (omega (arith, order, high))
    ∙ (ap (λ xs. xs ++ end ∷ []) parts ∙ (append_assoc middle (drop behind list) (end ∷ []) ∙ ap (λ xs. middle ++ xs) first)))
    ∙ take-append-add middle (next ∷ others) 1)
  where
    middle : List ℕ
    middle = slice_range list front behind

    len : length middle ≡ behind - front
    len = length-take-le (behind - front) (drop front list) (let n = length-drop front list in omega (arith, n, order, high))

    count : behind + 1 - front ≡ length middle + 1
    count = let n = len in omega (arith, n, order)

    parts : drop front list ≡ middle ++ drop behind list
    parts =
        let sum : front + (behind - front) ≡ behind = omega (arith, order) in
        sym (take-append-drop (behind - front) (drop front list)) ∙ ap (λ xs. middle ++ xs) (drop-drop (behind - front) front list ∙ ap (λ n. drop n list) sum)

-- one sum is above another by no more than all arcs add
pub apart-high : (z x y : ℤ) (a b : ℕ) → z ≡ x -ℤ y → IsIn (pos 0) (pos (a * 2 ^ 70)) x
    → IsIn (pos 0) (pos (b * 2 ^ 70)) y → a ≤ 1001 → z ≤ℤ pos (1001 * 2 ^ 70)
apart-high z x y a b is hx hy few =
    let x_high = hx.at_most in
    let y_low = hy.at_least in
    let x_top : x ≤ℤ pos (1001 * 2 ^ 70) = omega (arith, ints, x_high, few) in
    omega (arith, ints, is, x_top, y_low)

pub apart-low : (z x y : ℤ) (a b : ℕ) → z ≡ x -ℤ y → IsIn (pos 0) (pos (a * 2 ^ 70)) x
    → IsIn (pos 0) (pos (b * 2 ^ 70)) y → b ≤ 1001 → neg_ℤ (pos (1001 * 2 ^ 70)) ≤ℤ z
apart-low z x y a b is hx hy few =
    let x_low = hx.at_least in
    let y_high = hy.at_most in
    let y_top : y ≤ℤ pos (1001 * 2 ^ 70) = omega (arith, ints, y_high, few) in
    omega (arith, ints, is, x_low, y_top)

-- the most that arcs add so far
pub record IsMostSoFar (sums : List ℤ) (arcs n : ℕ) (most : ℤ) : Type 0 where
  pub low : pos 0 ≤ℤ most
  pub high : most ≤ℤ pos (1001 * 2 ^ 70)
  pub all : (k : ℕ) → k < n → (number_at sums (k + arcs) -ℤ number_at sums k) ≤ℤ most

pub most-begun : (sums : List ℤ) (arcs : ℕ) → IsMostSoFar sums arcs 0 (pos 0)
most-begun sums arcs = record { low = omega (arith, ints); high = omega (arith, ints); all = λ k low. absurd (omega (arith, low)) }

pub most-more : (sums : List ℤ) (arcs n : ℕ) (most next greater : ℤ) → IsMostSoFar sums arcs n most → next ≡ number_at sums (n + arcs) -ℤ number_at sums n
    → next ≤ℤ pos (1001 * 2 ^ 70) → greater ≡ int_max most next → IsMostSoFar sums arcs (n + 1) greater
most-more sums arcs n most next greater so_far is high e =
    let was = so_far.low in
    let top = so_far.high in
    record {
      low = omega (arith, ints, clamps, was, e);
      high = omega (arith, ints, clamps, top, high, e);
      all = λ k under. elim (eqb_tells k n) [
        | inl at ↦ subst (λ j. (number_at sums (j + arcs) -ℤ number_at sums j) ≤ℤ greater) (sym at.1) (omega (arith, ints, clamps, is, e))
        | inr other ↦ (let before = so_far.all k (let apart = other.1 in Prim.grind (arith, apart, under)) in omega (arith, ints, clamps, before, e))
      ];
    }
