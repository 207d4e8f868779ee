-- The arcs at the places of an insertion give what it adds to the arc costs of its vehicle.
use Rattle.std.proofs.Common.{◌≡◌, ◌∙◌, ◌<◌, ◌≤◌, ◌-◌, ◌++◌, ◌≢◌, ℕ, zero, suc, List, [], ◌∷◌, Bool, true, false, cond, refl, ap, ap₂, sym, arith, length, take}
use Rattle.std.proofs.Common.{drop, append_assoc, ℤ, pos}
use Rattle.std.specs.Prelude.{◌+ℤ◌, ◌-ℤ◌, ◌==◌, slice_range, slice_index, slice_index_or}
use Rattle.std.proofs.lemmas.Int.{ints}
use Rattle.std.proofs.lemmas.Bool.{eqb-true}
use Rattle.std.proofs.lemmas.Bool.Decides.{nat_tests}
use Rattle.std.proofs.lemmas.List.{append-nil, take-append-drop}
use Rattle.std.proofs.Math.Dec.{eqb-suc-zero}
use Rattle.std.proofs.Math.Seq.{drop-cons}
use Rattle.vr_model.specs.declared.records.Model.{Model}
use Rattle.vr_model.specs.tables.Numbers.{total_by}
use Rattle.vr_model.specs.tables.Tables.{arc_cost, vehicle_at}
use Rattle.vr_model.specs.routes.Routes.{route_cost, arcs_from, cost_of_arc, is_empty}
use Rattle.vr_first_insert.specs.declared.choice.Placing.{Placing}
use Rattle.vr_first_insert.specs.declared.choice.Placing.TheVariants.{One, Two}
use Rattle.vr_first_insert.specs.Placings.{placed, AreWithin}
use Rattle.vr_first_insert.specs.Increases.{node_before, node_behind, arc_cost_at, detour, visit_increase, pair_increase}
use Rattle.vr_first_insert.proofs.PlacedLemmas.{split-three}

-- what the placing adds
abbrev pub increase_of : Model → ℕ → List ℕ → Placing → ℤ
increase_of model v list (One node t) = visit_increase model v list node t
increase_of model v list (Two pickup delivery s t) = pair_increase model v list pickup delivery s t

-- ---- paths

-- the costs of the arcs from a node through others in turn
path : (ℕ → ℕ → ℤ) → ℕ → List ℕ → ℤ
path c at [] = pos 0
path c at (n ∷ ns) = c at n +ℤ path c n ns

path-is : (model : Model) (v at : ℕ) (ns : List ℕ) → total_by (cost_of_arc model) (arcs_from v at ns) ≡ path (arc_cost model v) at ns
unfolding path
path-is model v at [] = refl
path-is model v at (n ∷ ns) = ap (λ z. arc_cost model v at n +ℤ z) (path-is model v n ns)

-- the last node of a path
unfoldable pub last_of : ℕ → List ℕ → ℕ
last_of at [] = at
last_of at (z ∷ zs) = last_of z zs

-- the first of nodes with another behind them
unfoldable pub first_of : List ℕ → ℕ → ℕ
first_of [] end = end
first_of (y ∷ ys) end = y

-- one node more on a path
path-one : (c : ℕ → ℕ → ℤ) (at : ℕ) (xs ys : List ℕ) (x end : ℕ)
    → path c at (xs ++ x ∷ (ys ++ end ∷ []))
    ≡ path c at (xs ++ (ys ++ end ∷ [])) +ℤ ((c (last_of at xs) x +ℤ c x (first_of ys end)) -ℤ c (last_of at xs) (first_of ys end))
unfolding path last_of first_of
path-one c at [] [] x end = omega (arith, ints)
path-one c at [] (y ∷ ys) x end = omega (arith, ints)
path-one c at (z ∷ zs) ys x end = omega (arith, ints, path-one c z zs ys x end)

-- ---- routes

module _ (c : ℕ → ℕ → ℤ) (start end : ℕ) where
  cost : List ℕ → ℤ
  cost [] = pos 0
  cost (x ∷ xs) = path c start ((x ∷ xs) ++ end ∷ [])

  cost-with : (xs ys : List ℕ) (x : ℕ) → cost (xs ++ x ∷ ys) ≡ path c start (xs ++ x ∷ (ys ++ end ∷ []))
  unfolding cost
  cost-with [] ys x = refl
  cost-with (z ∷ zs) ys x = ap (path c start) (append_assoc (z ∷ zs) (x ∷ ys) (end ∷ []))

  cost-used : (xs ys : List ℕ) → is_empty (xs ++ ys) ≡ false → cost (xs ++ ys) ≡ path c start (xs ++ (ys ++ end ∷ []))
  unfolding cost
  cost-used [] [] h = absurd (cc)
  cost-used [] (y ∷ ys) h = refl
  cost-used (x ∷ xs) ys h = ap (path c start) (append_assoc (x ∷ xs) ys (end ∷ []))

  -- one node more
  cost-one : (xs ys : List ℕ) (x : ℕ) → is_empty (xs ++ ys) ≡ false
      → cost (xs ++ x ∷ ys) -ℤ cost (xs ++ ys) ≡ ((c (last_of start xs) x +ℤ c x (first_of ys end)) -ℤ c (last_of start xs) (first_of ys end))
  cost-one xs ys x h = omega (arith, ints, cost-with xs ys x, cost-used xs ys h, path-one c start xs ys x end)

  -- two nodes more, with nodes between them
  cost-two : (xs ms ys : List ℕ) (p d : ℕ) → is_empty (xs ++ (ms ++ ys)) ≡ false
      → cost (xs ++ p ∷ (ms ++ d ∷ ys)) -ℤ cost (xs ++ (ms ++ ys))
      ≡ (((c (last_of start xs) p +ℤ c p (first_of (ms ++ d ∷ ys) end)) -ℤ c (last_of start xs) (first_of (ms ++ d ∷ ys) end))
      +ℤ ((c (last_of start (xs ++ ms)) d +ℤ c d (first_of ys end)) -ℤ c (last_of start (xs ++ ms)) (first_of ys end)))
  cost-two xs ms ys p d h =
      let group : (xs ++ ms) ++ ys ≡ xs ++ (ms ++ ys) = append_assoc xs ms ys in
      let inner : cost (xs ++ (ms ++ d ∷ ys)) ≡ cost ((xs ++ ms) ++ d ∷ ys) = ap cost (sym (append_assoc xs ms (d ∷ ys))) in
      let used : is_empty (xs ++ (ms ++ d ∷ ys)) ≡ false = some xs ms ys d in
      omega (arith, ints, cost-one xs (ms ++ d ∷ ys) p used, inner, cost-one (xs ++ ms) ys d (ap is_empty group ∙ h), ap cost group)
    where
      some : (xs ms ys : List ℕ) (d : ℕ) → is_empty (xs ++ (ms ++ d ∷ ys)) ≡ false
      some [] [] ys d = refl
      some [] (m ∷ ms) ys d = refl
      some (x ∷ xs) ms ys d = refl

-- the arc costs of a vehicle are the cost of its path
route_cost-is : (model : Model) (v : ℕ) (list : List ℕ)
    → route_cost model v list ≡ cost (arc_cost model v) (vehicle_at model v).start (vehicle_at model v).end list
unfolding cost
route_cost-is model v [] = refl
route_cost-is model v (x ∷ xs) = path-is model v (vehicle_at model v).start ((x ∷ xs) ++ (vehicle_at model v).end ∷ [])

-- ---- the nodes at a place

pub last-taken : (at : ℕ) (list : List ℕ) (t : ℕ) → t ≤ length list → last_of at (take t list) ≡ cond (t == 0) at (slice_index list (t - 1))
unfolding last_of
last-taken at list zero h = refl
last-taken at [] (suc t) h = absurd (omega (arith, h))
last-taken at (z ∷ zs) (suc t) h =
    last-taken z zs t (omega (arith, h)) ∙ by t ∙ sym (ap (λ b. cond b at (slice_index (z ∷ zs) (suc t - 1))) (eqb-suc-zero t))
  where
    by : (t : ℕ) → cond (t == 0) z (slice_index zs (t - 1)) ≡ slice_index (z ∷ zs) (suc t - 1)
    by zero = refl
    by (suc t) =
        let e : suc t - 1 ≡ t = omega arith in
        let f : suc (suc t) - 1 ≡ suc t = omega arith in
        ap (λ b. cond b z (slice_index zs (suc t - 1))) (eqb-suc-zero t) ∙ ap (slice_index zs) e ∙ sym (ap (slice_index (z ∷ zs)) f)

pub first-dropped : (list : List ℕ) (t end : ℕ) → first_of (drop t list) end ≡ slice_index_or list t end
unfolding first_of
first-dropped [] zero end = refl
first-dropped [] (suc t) end = refl
first-dropped (x ∷ xs) zero end = refl
first-dropped (x ∷ xs) (suc t) end = first-dropped xs t end

used_arc : (b : Bool) (x y : ℤ) → b ≡ false → cond b x y ≡ y
used_arc b x y e = ap (λ b. cond b x y) e

take-none : (n : ℕ) → take {A = ℕ} n [] ≡ []
take-none zero = refl
take-none (suc n) = refl

take-split : (xs : List ℕ) (s t : ℕ) → s ≤ t → take s xs ++ slice_range xs s t ≡ take t xs
take-split xs zero t h = let e : t - 0 ≡ t = omega arith in ap (λ n. take n xs) e
take-split [] (suc s) t h = take-none (t - suc s) ∙ sym (take-none t)
take-split (x ∷ xs) (suc s) zero h = absurd (omega (arith, h))
take-split (x ∷ xs) (suc s) (suc t) h =
    let e : suc t - suc s ≡ t - s = omega arith in
    ap (λ n. x ∷ (take s xs ++ take n (drop s xs))) e ∙ ap (λ ys. x ∷ ys) (take-split xs s t (omega (arith, h)))

first-between : (list rest : List ℕ) (s t end : ℕ) → s < t → t ≤ length list → first_of (slice_range list s t ++ rest) end ≡ slice_index_or list s end
unfolding first_of
first-between list rest s t end low high =
    let e : t - s ≡ suc (t - suc s) = omega arith in
    ap (λ n. first_of (take n (drop s list) ++ rest) end) e
    ∙ ap (λ l. first_of (take (suc (t - suc s)) l ++ rest) end) (drop-cons list s end (omega (arith, low, high)))

-- ---- a visit

module _ (model : Model) (v : ℕ) where
  abbrev begin : ℕ
  begin = (vehicle_at model v).start

  abbrev finish : ℕ
  finish = (vehicle_at model v).end

  abbrev at_cost : List ℕ → ℤ
  at_cost list = cost (arc_cost model v) begin finish list

  visit-used : (list : List ℕ) (x t : ℕ) → t ≤ length list → is_empty list ≡ false
      → visit_increase model v list x t ≡ at_cost (take t list ++ x ∷ drop t list) -ℤ at_cost list
  visit-used list x t h some =
      let whole = take-append-drop t list in
      let before : last_of begin (take t list) ≡ node_before model v list t = last-taken begin list t h in
      let behind : first_of (drop t list) finish ≡ node_behind model v list t = first-dropped list t finish in
      let old : arc_cost_at model v list t ≡ arc_cost model v (node_before model v list t) (node_behind model v list t) = used_arc (is_empty list)
      (pos 0) (arc_cost model v (node_before model v list t) (node_behind model v list t)) some in
      let used : is_empty (take t list ++ drop t list) ≡ false = ap is_empty whole ∙ some in
      ap (detour model v (node_before model v list t) x (node_behind model v list t)) old
      ∙ (λ i. detour model v (sym before i) x (sym behind i) (arc_cost model v (sym before i) (sym behind i)))
      ∙ sym (cost-one (arc_cost model v) begin finish (take t list) (drop t list) x used)
      ∙ ap (λ l. at_cost (take t list ++ x ∷ drop t list) -ℤ at_cost l) whole

  visit-empty : (x t : ℕ) → t ≤ 0 → visit_increase model v [] x t ≡ at_cost (take t [] ++ x ∷ drop t []) -ℤ at_cost []
  unfolding cost path
  visit-empty x zero h = omega (arith, ints)
  visit-empty x (suc t) h = absurd (omega (arith, h))

  visit-is : (list : List ℕ) (x t : ℕ) → t ≤ length list → visit_increase model v list x t ≡ at_cost (take t list ++ x ∷ drop t list) -ℤ at_cost list
  visit-is [] x t h = visit-empty x t h
  visit-is (y ∷ ys) x t h = visit-used (y ∷ ys) x t h refl

  -- ---- a pair

  pair-together : (list : List ℕ) (p d s : ℕ) → s ≤ length list → is_empty list ≡ false
      → arc_cost model v (node_before model v list s) p +ℤ detour model v p d (node_behind model v list s) (arc_cost_at model v list s)
      ≡ at_cost (take s list ++ p ∷ d ∷ drop s list) -ℤ at_cost list
  unfolding first_of
  pair-together list p d s h some =
      let c = arc_cost model v in
      let whole = take-append-drop s list in
      let before : last_of begin (take s list) ≡ node_before model v list s = last-taken begin list s h in
      let behind : first_of (drop s list) finish ≡ node_behind model v list s = first-dropped list s finish in
      let old : arc_cost_at model v list s ≡ c (node_before model v list s) (node_behind model v list s) = used_arc (is_empty list)
      (pos 0) (c (node_before model v list s) (node_behind model v list s)) some in
      let same : take s list ++ [] ≡ take s list = append-nil (take s list) in
      let two = cost-two c begin finish (take s list) [] (drop s list) p d (ap is_empty whole ∙ some) in
      let read = λ (a b h : ℕ). (((c a p +ℤ c p d) -ℤ c a d) +ℤ ((c b d +ℤ c d h) -ℤ c b h)) in
      let placed_two : at_cost (take s list ++ p ∷ d ∷ drop s list) -ℤ at_cost (take s list ++ drop s list)
      ≡ read (node_before model v list s) (node_before model v list s) (node_behind model v list s) =
      two ∙ (λ i. read (before i) ((ap (last_of begin) same ∙ before) i) (behind i)) in
      ap (λ z. c (node_before model v list s) p +ℤ detour model v p d (node_behind model v list s) z) old
      ∙ together (c (node_before model v list s) p) (c p d) (c d (node_behind model v list s))
      (c (node_before model v list s) (node_behind model v list s)) (c (node_before model v list s) d)
      ∙ sym placed_two ∙ ap (λ l. at_cost (take s list ++ p ∷ d ∷ drop s list) -ℤ at_cost l) whole
    where
      together : (ap_ pd dh ah ad : ℤ) → ap_ +ℤ ((pd +ℤ dh) -ℤ ah) ≡ (((ap_ +ℤ pd) -ℤ ad) +ℤ ((ad +ℤ dh) -ℤ ah))
      together ap_ pd dh ah ad = omega (arith, ints)

  pair-apart : (list : List ℕ) (p d s t : ℕ) → s < t → t ≤ length list → is_empty list ≡ false
      → visit_increase model v list p s +ℤ visit_increase model v list d t
      ≡ at_cost (take s list ++ p ∷ (slice_range list s t ++ d ∷ drop t list)) -ℤ at_cost list
  pair-apart list p d s t low high some =
      let c = arc_cost model v in
      let order : s ≤ t = omega (arith, low) in
      let whole = split-three list s t order in
      let before_s : last_of begin (take s list) ≡ node_before model v list s = last-taken begin list s (omega (arith, low, high)) in
      let behind_s : first_of (slice_range list s t ++ d ∷ drop t list) finish ≡ node_behind model v list s = first-between list
      (d ∷ drop t list) s t finish low high in
      let before_t : last_of begin (take s list ++ slice_range list s t) ≡ node_before model v list t = ap (last_of begin) (take-split list s t order)
      ∙ last-taken begin list t high in
      let behind_t : first_of (drop t list) finish ≡ node_behind model v list t = first-dropped list t finish in
      let old_s : arc_cost_at model v list s ≡ c (node_before model v list s) (node_behind model v list s) = used_arc (is_empty list)
      (pos 0) (c (node_before model v list s) (node_behind model v list s)) some in
      let old_t : arc_cost_at model v list t ≡ c (node_before model v list t) (node_behind model v list t) = used_arc (is_empty list)
      (pos 0) (c (node_before model v list t) (node_behind model v list t)) some in
      let two = cost-two c begin finish (take s list) (slice_range list s t) (drop t list) p d (ap is_empty whole ∙ some) in
      (λ i. detour model v (node_before model v list s) p (node_behind model v list s) (old_s i)
      +ℤ detour model v (node_before model v list t) d (node_behind model v list t) (old_t i))
      ∙ (λ i. detour model v (sym before_s i) p (sym behind_s i) (c (sym before_s i) (sym behind_s i))
      +ℤ detour model v (sym before_t i) d (sym behind_t i) (c (sym before_t i) (sym behind_t i)))
      ∙ sym two ∙ ap (λ l. at_cost (take s list ++ p ∷ (slice_range list s t ++ d ∷ drop t list)) -ℤ at_cost l) whole

  pair-used : (list : List ℕ) (p d s t : ℕ) → s ≤ t → t ≤ length list → is_empty list ≡ false
      → pair_increase model v list p d s t ≡ at_cost (take s list ++ p ∷ (slice_range list s t ++ d ∷ drop t list)) -ℤ at_cost list
  pair-used list p d s t order high some = by (s == t) refl
    where
      by : (b : Bool) → (s == t) ≡ b
          → pair_increase model v list p d s t ≡ at_cost (take s list ++ p ∷ (slice_range list s t ++ d ∷ drop t list)) -ℤ at_cost list
      by true e =
          let same : s ≡ t = eqb-true s t e in
          let none : t - s ≡ 0 = omega (arith, same) in
          ap (λ b. cond b (arc_cost model v (node_before model v list s) p +ℤ detour model v p d (node_behind model v list s) (arc_cost_at model v list s))
          (visit_increase model v list p s +ℤ visit_increase model v list d t)) e
          ∙ pair-together list p d s (omega (arith, order, high)) some
          ∙ sym (ap (λ n. at_cost (take s list ++ p ∷ (take n (drop s list) ++ d ∷ drop s list)) -ℤ at_cost list) none)
          ∙ ap (λ k. at_cost (take s list ++ p ∷ (slice_range list s t ++ d ∷ drop k list)) -ℤ at_cost list) same
      by false e =
          let low : s < t = omega (arith, order, differ s t e) in
          ap (λ b. cond b (arc_cost model v (node_before model v list s) p +ℤ detour model v p d (node_behind model v list s) (arc_cost_at model v list s))
          (visit_increase model v list p s +ℤ visit_increase model v list d t)) e
          ∙ pair-apart list p d s t low high some
        where
          differ : (s t : ℕ) → (s == t) ≡ false → s ≢ t
          differ s t e = grind (arith, nat_tests)

  pair-empty : (p d s t : ℕ) → s ≤ t → t ≤ 0 → pair_increase model v [] p d s t ≡ at_cost (take s [] ++ p ∷ (slice_range [] s t ++ d ∷ drop t [])) -ℤ at_cost []
  unfolding cost path
  pair-empty p d zero zero order high = omega (arith, ints)
  pair-empty p d zero (suc t) order high = absurd (omega (arith, high))
  pair-empty p d (suc s) t order high = absurd (omega (arith, order, high))

  pair-is : (list : List ℕ) (p d s t : ℕ) → s ≤ t → t ≤ length list
      → pair_increase model v list p d s t ≡ at_cost (take s list ++ p ∷ (slice_range list s t ++ d ∷ drop t list)) -ℤ at_cost list
  pair-is [] p d s t order high = pair-empty p d s t order high
  pair-is (y ∷ ys) p d s t order high = pair-used (y ∷ ys) p d s t order high refl

-- what a placing adds is what the arc costs of the vehicle are more
pub increase-is : (model : Model) (v : ℕ) (list : List ℕ) (placing : Placing) → AreWithin list placing
    → increase_of model v list placing ≡ route_cost model v (placed list placing) -ℤ route_cost model v list
increase-is model v list (One n t) within =
    visit-is model v list n t within
    ∙ sym (ap₂ (λ a b. a -ℤ b) (route_cost-is model v (placed list (One n t))) (route_cost-is model v list))
increase-is model v list (Two p d s t) within =
    pair-is model v list p d s t within.0 within.1
    ∙ sym (ap₂ (λ a b. a -ℤ b) (route_cost-is model v (placed list (Two p d s t))) (route_cost-is model v list))
