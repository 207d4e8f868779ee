-- A walk goes through a chain of a list at one go, forward or back.
use Rattle.std.proofs.Common.{◌≡◌, ◌∙◌, ℕ, suc, ◌+◌, ◌-◌, ◌*◌, ◌^◌, ◌<◌, ◌≤◌, List, [], ◌∷◌, ◌++◌, length, take, drop, reverse, get_or, refl, sym, ap, ap₂}
use Rattle.std.proofs.Common.{subst, to_z, of_z, arith}
use Rattle.std.specs.Int.{w128}
use Rattle.std.specs.Prelude.{ℤ, pos, ◌+ℤ◌, ◌*ℤ◌, ◌≤ℤ◌, All, slice_range}
use Rattle.std.proofs.lemmas.Int.{ints}
use Rattle.std.proofs.lemmas.List.{drop-append-le, drop_more, get_or-drop, length-append, length-drop, length-take-le, reverse-append, reverse-reverse}
use Rattle.std.proofs.lemmas.List.{take-append-le}
use Rattle.std.proofs.lemmas.List.Elements.{All-head, All-tail}
use Rattle.vr_model.specs.tables.Tables.{entry, vehicle_at}
use Rattle.vr_model.specs.tables.WellFormed.{IsIn, IsWellFormed}
use Rattle.vr_model.specs.search.GuidedSearches.{Penalties}
use Rattle.vr_model.specs.declared.records.Model.{Model}
use Rattle.vr_model.proofs.routes.Bounded.{up_to-more}
use Rattle.vr_guided.specs.Counts.{AtMost}
use Rattle.vr_guided.specs.Sums.{weight_back}
use Rattle.vr_guided.specs.Walks.{walked, arc_weight}
use Rattle.vr_balance.specs.Sums.{last_of}
use Rattle.vr_guided.specs.declared.walks.Walk.{Walk}
use Rattle.vr_guided.proofs.BoundLemmas.{last_below, most, path-up_to}
use Rattle.vr_guided.proofs.LocalChanges.{along, along_split, last_behind}
use Rattle.vr_guided.proofs.WalkLemmas.{all_unreversed, arcs_walked, last_taken, node_walked, total_walked}

-- what a walk added up to, and what more arcs add
pub sum-read : (x y : ℤ) (a b : ℕ) → pos 0 ≤ℤ x → x ≤ℤ pos (a * 2 ^ 70) → IsIn (pos 0) (pos (b * 2 ^ 70)) y → a + b ≤ 200000
    → to_z w128 (of_z w128 (to_z w128 (of_z w128 x) +ℤ to_z w128 (of_z w128 y))) ≡ x +ℤ y
sum-read x y a b x_low x_high range few =
    let y_low = range.at_least in
    let y_high = range.at_most in
    let x_top : x ≤ℤ pos (200000 * 2 ^ 70) = omega (arith, ints, x_high, few) in
    let y_top : y ≤ℤ pos (200000 * 2 ^ 70) = omega (arith, ints, y_high, few) in
    omega (arith, ints, x_low, x_top, y_low, y_top)

-- what a few arcs add is read as it is
pub total-read : (z : ℤ) (n : ℕ) → IsIn (pos 0) (pos (n * 2 ^ 70)) z → n ≤ 1000 → to_z w128 (of_z w128 z) ≡ z
total-read z n range few =
    let low = range.at_least in
    let high = range.at_most in
    let top : z ≤ℤ pos (1000 * 2 ^ 70) = omega (arith, ints, high, few) in
    omega (arith, ints, low, top)

-- a walk by its three numbers
abbrev pub walk_of : ℕ → ℕ → ℤ → Walk
walk_of at arcs total = record { at = at; arcs = arcs; total = total }

pub same_walk : (a b k l : ℕ) (x y : ℤ) → a ≡ b → k ≡ l → x ≡ y → walk_of a k x ≡ walk_of b l y
same_walk a b k l x y at arcs total = λ i. record { at = at i; arcs = arcs i; total = total i }

-- where a walk through nodes ends, and what it adds up to
pub walked-jump : (model : Model) (p : Penalties) (v : ℕ) (walk : Walk) (nodes : List ℕ)
    → walked model p v walk nodes ≡ walk_of (last_of walk.at nodes) (walk.arcs + length nodes) (walk.total +ℤ along (arc_weight model p) v walk.at nodes)
walked-jump model p v walk nodes = λ i. record {
  at = node_walked model p v walk nodes i;
  arcs = arcs_walked model p v walk nodes i;
  total = total_walked model p v walk nodes i;
}

-- vehicles of the same arc costs add the same
pub along-same : (model : Model) (p : Penalties) (v w : ℕ) → (vehicle_at model v).costs ≡ (vehicle_at model w).costs → (x : ℕ) (nodes : List ℕ)
    → along (arc_weight model p) v x nodes ≡ along (arc_weight model p) w x nodes
along-same model p v w same x [] = refl
along-same model p v w same x (y ∷ ys) = ap₂ (λ a b. a +ℤ b) (ap (λ c. pos (p x y) *ℤ entry model c x y) same) (along-same model p v w same y ys)

-- a chain the other way round: its nodes behind the last one, and what its arcs add then
pub record IsTurned (model : Model) (p : Penalties) (v x : ℕ) (nodes others : List ℕ) : Type 0 where
  pub is : reverse (x ∷ nodes) ≡ last_of x nodes ∷ others
  pub many : length nodes ≡ length others
  pub last : x ≡ last_of (last_of x nodes) others
  pub sum : along (weight_back model p) v x nodes ≡ along (arc_weight model p) v (last_of x nodes) others

pub turned : (model : Model) (p : Penalties) (v x : ℕ) (nodes : List ℕ) → (others : List ℕ) × IsTurned model p v x nodes others
turned model p v x [] = ([], record { is = refl; many = refl; last = refl; sum = refl })
turned model p v x (y ∷ ys) =
    let rest = turned model p v y ys in
    let others : List ℕ = rest.0 in
    let h = rest.1 in
    let end : ℕ = last_of y ys in (
      others ++ x ∷ [],
      record {
        is = reverse-append (x ∷ []) (y ∷ ys) ∙ ap (λ xs. xs ++ x ∷ []) h.is;
        many = ap suc h.many ∙ (one_more (length others) ∙ sym (length-append others (x ∷ [])));
        last = sym (last_behind end x others);
        sum =
            let split = along_split (arc_weight model p) v end others (x ∷ []) in
            let here : along (arc_weight model p) v (last_of end others) (x ∷ [])
            ≡ arc_weight model p (record { vehicle = v; origin = y; target = x }) +ℤ pos 0 = ap (λ z. along (arc_weight model p) v z (x ∷ []))
            (sym h.last) in
            let before = h.sum in
            turned_sum (along (weight_back model p) v y ys) (arc_weight model p (record { vehicle = v; origin = y; target = x }))
            (along (arc_weight model p) v end others) (along (arc_weight model p) v (last_of end others) (x ∷ [])) _ before here split;
      },
    )
  where
    one_more : (n : ℕ) → suc n ≡ n + 1
    one_more n = omega arith

    turned_sum : (b w a h t : ℤ) → b ≡ a → h ≡ w +ℤ pos 0 → t ≡ a +ℤ h → w +ℤ b ≡ t
    turned_sum b w a h t e f g = omega (arith, ints, e, f, g)

-- ---- a chain of a list

module _ (list : List ℕ) (from to : ℕ) (order : from < to) (high : to ≤ length list) where
  -- its first node, and those behind it
  pub chain-first : slice_range list from to ≡ get_or list from 0 ∷ slice_range list (from + 1) to
  chain-first =
      let count : to - from ≡ suc (to - (from + 1)) = omega (arith, order) in
      ap₂ (λ n xs. take n xs) count (drop_more list from 0 (omega (arith, order, high)))

  pub chain-many : length (slice_range list (from + 1) to) ≡ to - from - 1
  chain-many =
      let rest = length-drop (from + 1) list in
      let n = length-take-le (to - (from + 1)) (drop (from + 1) list) (omega (arith, rest, order, high)) in
      omega (arith, n, order)

  pub chain-last : (d : ℕ) → get_or list (to - 1) 0 ≡ last_of (get_or list from 0) (slice_range list (from + 1) to)
  chain-last d =
      let rest = length-drop from list in
      let count : to - from - 1 + 1 ≡ to - from = omega (arith, order) in
      let place : from + (to - from - 1) ≡ to - 1 = omega (arith, order) in
      let taken = last_taken d (drop from list) (to - from - 1) (omega (arith, rest, order, high)) in
      sym (ap (last_of d) (sym chain-first)
      ∙ (ap (λ n. last_of d (take n (drop from list))) (sym count) ∙ (taken ∙ (get_or-drop from list (to - from - 1) 0 ∙ ap (λ k. get_or list k 0) place))))

  -- the same places of the list with the end behind it
  pub chain-start : (start end : ℕ) → last_of start (take (from + 1) (list ++ end ∷ [])) ≡ get_or list from 0
  chain-start start end = ap (last_of start) (take-append-le (from + 1) list (end ∷ []) (omega (arith, order, high)))
      ∙ last_taken start list from (omega (arith, order, high))

  pub chain-line_nodes : (end : ℕ) → slice_range (list ++ end ∷ []) (from + 1) to ≡ slice_range list (from + 1) to
  chain-line_nodes end =
      let rest = length-drop (from + 1) list in
      ap (take (to - (from + 1))) (drop-append-le (from + 1) list (end ∷ []) (omega (arith, order, high)))
      ∙ take-append-le (to - (from + 1)) (drop (from + 1) list) (end ∷ []) (omega (arith, rest, order, high))

-- what as many arcs add
pub arcs-range : (model : Model) → IsWellFormed model → (p : Penalties) → AtMost 1000000000 p
    → (v : ℕ) → v < length model.vehicles → (x : ℕ) (nodes : List ℕ) (n : ℕ) (z : ℤ)
    → All (λ node. node < model.nodes) (x ∷ nodes) → n ≡ length nodes → z ≡ along (arc_weight model p) v x nodes → IsIn (pos 0) (pos (n * 2 ^ 70)) z
arcs-range model well p few v known x nodes n z below many is =
    let up = path-up_to model well p few v x nodes known (All-head (λ node. node < model.nodes) x nodes below)
    (All-tail (λ node. node < model.nodes) x nodes below) in
    subst (IsIn (pos 0) (pos (n * 2 ^ 70))) (sym is) (up_to-more _ up (more (length nodes) n many))
  where
    more : (m n : ℕ) → n ≡ m → m * most ≤ n * 2 ^ 70
    more m n e = omega (arith, e)

-- what holds of each entry of a list holds of each of it reversed
pub all-reversed : {X : Type 0} (P : X → Type 0) (xs : List X) → All P xs → All P (reverse xs)
all-reversed P xs h = all_unreversed P (reverse xs) (subst (λ ys. All P ys) (sym (reverse-reverse xs)) h)

-- a walk may go through these nodes at one go
pub record AreJump (model : Model) (p : Penalties) (w : ℕ) (nodes : List ℕ) (first last arcs : ℕ) (total : ℤ) : Type 0 where
  pub others : List ℕ
  pub is : nodes ≡ first ∷ others
  pub many : arcs ≡ length others
  pub ends : last ≡ last_of first others
  pub sum : total ≡ along (arc_weight model p) w first others

module _ (model : Model) (p : Penalties) (v w : ℕ) (same : (vehicle_at model v).costs ≡ (vehicle_at model w).costs)
    (list : List ℕ) (from to : ℕ) (order : from < to) (high : to ≤ length list) where
  abbrev start : ℕ
  start = (vehicle_at model v).start

  abbrev end : ℕ
  end = (vehicle_at model v).end

  abbrev xs : List ℕ
  xs = slice_range list (from + 1) to

  abbrev low : ℕ
  low = get_or list from 0

  pub kept-forward : (total : ℤ)
      → total ≡ along (arc_weight model p) v (last_of start (take (from + 1) (list ++ end ∷ []))) (slice_range (list ++ end ∷ []) (from + 1) to)
      → AreJump model p w (slice_range list from to) (get_or list from 0) (get_or list (to - 1) 0) (to - from - 1) total
  kept-forward total is = record {
    others = xs;
    is = chain-first list from to order high;
    many = sym (chain-many list from to order high);
    ends = chain-last list from to order high 0;
    sum = is
        ∙ (ap₂ (λ x ys. along (arc_weight model p) v x ys) (chain-start list from to order high start end) (chain-line_nodes list from to order high end)
        ∙ along-same model p v w same low xs);
  }

  pub kept-back : (total : ℤ)
      → total ≡ along (weight_back model p) v (last_of start (take (from + 1) (list ++ end ∷ []))) (slice_range (list ++ end ∷ []) (from + 1) to)
      → AreJump model p w (reverse (slice_range list from to)) (get_or list (to - 1) 0) (get_or list from 0) (to - from - 1) total
  kept-back total is =
      let turn = turned model p v low xs in
      let h = turn.1 in
      let hi : get_or list (to - 1) 0 ≡ last_of low xs = chain-last list from to order high 0 in
      subst (λ y. AreJump model p w (reverse (slice_range list from to)) y (get_or list from 0) (to - from - 1) total) (sym hi) (record {
        others = turn.0;
        is = ap reverse (chain-first list from to order high) ∙ h.is;
        many = sym (chain-many list from to order high) ∙ h.many;
        ends = h.last;
        sum = is
            ∙ (ap₂ (λ x ys. along (weight_back model p) v x ys) (chain-start list from to order high start end) (chain-line_nodes list from to order high end)
            ∙ (h.sum ∙ along-same model p v w same (last_of low xs) turn.0));
      })

module _ (model : Model) (well : IsWellFormed model) (p : Penalties) (few : AtMost 1000000000 p)
    (w : ℕ) (known : w < length model.vehicles) (nodes : List ℕ) (first last arcs : ℕ) (total : ℤ)
    (jump : AreJump model p w nodes first last arcs total) (below : All (λ node. node < model.nodes) nodes) where
  there : All (λ node. node < model.nodes) (first ∷ jump.others)
  there = subst (λ ys. All (λ node. node < model.nodes) ys) jump.is below

  pub jump-first : first < model.nodes
  jump-first = All-head (λ node. node < model.nodes) first jump.others there

  pub jump-last : last < model.nodes
  jump-last = subst (λ x. x < model.nodes) (sym jump.ends)
      (last_below model well p few w known first jump.others jump-first (All-tail (λ node. node < model.nodes) first jump.others there))

  pub jump-range : IsIn (pos 0) (pos (arcs * 2 ^ 70)) total
  jump-range = arcs-range model well p few w known first jump.others arcs total there jump.many jump.sum
