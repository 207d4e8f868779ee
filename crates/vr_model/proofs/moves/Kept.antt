-- No move makes a node stand more often.
use Rattle.std.proofs.Common.{◌⊎◌, ◌≡◌, ◌≢◌, ◌∙◌, ℕ, zero, suc, ◌+◌, ◌<◌, ◌≤◌, Bool, true, false, cond, not, ◌||◌, map, List, [], ◌∷◌, ◌++◌, length, reverse}
use Rattle.std.proofs.Common.{take, drop, drop-cons, refl, sym, ap, subst, inl, inr, arith, length-set}
use Rattle.std.specs.Prelude.{IsTrue, ◌==◌, nat_lt, nat_le, filter, slice_index_or, slice_index, slice_range, slice_set, insert, remove}
use Rattle.std.proofs.lemmas.List.{get_or-set_other}
use Rattle.std.proofs.Math.Dec.{eqb}
use Rattle.std.proofs.lemmas.Bool.Decides.{eqb_tells}
use Rattle.std.proofs.lemmas.List.Folds.{drop_split}
use Rattle.vr_model.specs.routes.Routes.{route, holds, is_distinct, is_active}
use Rattle.vr_model.specs.tables.Tables.{is_visit, pair_at}
use Rattle.vr_model.specs.deciding.Testing.{and_left, and_right}
use Rattle.vr_model.proofs.tables.Tests.{clash, fails_not}
use Rattle.std.specs.List.{concat}
use Rattle.std.proofs.lemmas.Bool.{cases_lt}
use Rattle.vr_model.specs.moves.Moves.{apply, reversed_between, chain_moved, with_pair, without_pair, is_pair_inactive, is_pair_served}
use Rattle.vr_model.specs.tables.Numbers.{each}
use Rattle.vr_model.specs.tables.WellFormed.{IsWellFormed, pair_nodes}
use Rattle.vr_model.specs.declared.records.Pair.{Pair}
use Rattle.vr_model.specs.moves.MoveTests.{is_vehicle, is_place, is_inactive, may_put_pair, is_move}
use Rattle.vr_model.specs.declared.records.Model.{Model}
use Rattle.vr_model.specs.declared.neighbours.Move.{Move}
use Rattle.vr_model.specs.declared.neighbours.Move.TheVariants.{TwoOpt, OrOpt, Relocate, Exchange, Cross, MakeActive, MakeInactive, SwapActive, PairActive}
use Rattle.vr_model.specs.declared.neighbours.Move.TheVariants.{PairInactive, RelocatePair}
use Rattle.std.proofs.lemmas.List.{length-map}
use Rattle.vr_model.proofs.routes.Lists.{route_set_same, route_set_other, held_at, is_active-concat}
use Rattle.vr_model.proofs.moves.Times.{times, times_in, hit, times_append, times_split, times_reverse, times_set, here_or_later, joined_times, times_held}

-- a number that is in no list stands in none
pub inactive_times : (lists : List (List ℕ)) (x : ℕ) → is_active lists x ≡ false → times_in x lists ≡ 0
inactive_times lists x none = elim (cases_lt 0 (times_in x lists)) [
  | inl some ↦ absurd (clash (holds (concat lists) x)
      (times_held x (concat lists) (let e = joined_times x lists in omega (arith, some, e))) (sym (is_active-concat lists x) ∙ none))
  | inr free ↦ omega (arith, free)
]

-- ---- lists of the same nodes

reversed_times : (x : ℕ) (xs : List ℕ) (a e : ℕ) → a ≤ e → times x (reversed_between xs a e) ≡ times x xs
reversed_times x xs a e low =
    let whole = times_split x a xs in
    let rest : times x (drop a xs) ≡ times x (slice_range xs a e) + times x (drop e xs) = ap (times x) (drop_split xs a e low)
    ∙ times_append x (slice_range xs a e) (drop e xs) in
    let mid = times_reverse x (slice_range xs a e) in
    let one = times_append x (take a xs) (reverse (slice_range xs a e) ++ drop e xs) in
    let two = times_append x (reverse (slice_range xs a e)) (drop e xs) in
    omega (arith, whole, rest, mid, one, two)

moved_times : (x : ℕ) (xs : List ℕ) (a k t : ℕ) → times x (chain_moved xs a k t) ≡ times x xs
moved_times x xs a k t =
    let rest : List ℕ = take a xs ++ drop (a + k) xs in
    let chain : List ℕ = slice_range xs a (a + k) in
    let whole = times_split x a xs in
    let tail : times x (drop a xs) ≡ times x chain + times x (drop (a + k) xs) = ap (times x) (drop_split xs a (a + k) (omega arith))
    ∙ times_append x chain (drop (a + k) xs) in
    let parts = times_append x (take a xs) (drop (a + k) xs) in
    let cut = times_split x t rest in
    let one = times_append x (take t rest) (chain ++ drop t rest) in
    let two = times_append x chain (drop t rest) in
    omega (arith, whole, tail, parts, cut, one, two)

pub removed_times : (x : ℕ) (xs : List ℕ) (a : ℕ) → a < length xs → times x (remove xs a) + hit x (slice_index xs a) ≡ times x xs
removed_times x xs a low =
    let whole = times_split x a xs in
    let rest : times x (drop a xs) ≡ hit x (slice_index xs a) + times x (drop (suc a) xs) = ap (times x) (drop-cons xs a 0 low) in
    let one = times_append x (take a xs) (drop (suc a) xs) in
    omega (arith, whole, rest, one)

pub inserted_times : (x : ℕ) (xs : List ℕ) (t y : ℕ) → times x (insert xs t y) ≡ times x xs + hit x y
inserted_times x xs t y =
    let whole = times_split x t xs in
    let one = times_append x (take t xs) (y ∷ drop t xs) in
    omega (arith, whole, one)

pub replaced_times : (x : ℕ) (xs : List ℕ) (a y : ℕ) → a < length xs → times x (slice_set xs a y) + hit x (slice_index xs a) ≡ times x xs + hit x y
replaced_times x [] a y low = absurd (omega (arith, low))
replaced_times x (z ∷ zs) zero y low = omega arith
replaced_times x (z ∷ zs) (suc a) y low = let r = replaced_times x zs a y (omega (arith, low)) in omega (arith, r)

pub pair_times : (x : ℕ) (xs : List ℕ) (s t p d : ℕ) → s ≤ t
    → times x (take s xs ++ (p ∷ (slice_range xs s t ++ (d ∷ drop t xs)))) ≡ times x xs + (hit x p + hit x d)
pair_times x xs s t p d order =
    let whole = times_split x s xs in
    let rest : times x (drop s xs) ≡ times x (slice_range xs s t) + times x (drop t xs) = ap (times x) (drop_split xs s t order)
    ∙ times_append x (slice_range xs s t) (drop t xs) in
    let one = times_append x (take s xs) (p ∷ (slice_range xs s t ++ (d ∷ drop t xs))) in
    let two = times_append x (slice_range xs s t) (d ∷ drop t xs) in
    omega (arith, whole, rest, one, two)

-- the two nodes of a pair are two
pub pair_apart : (ps : List Pair) (p : ℕ) → p < length ps → IsTrue (is_distinct (each ps pair_nodes))
    → (slice_index_or ps p (record { pickup = 0; delivery = 0 })).pickup ≢ (slice_index_or ps p (record { pickup = 0; delivery = 0 })).delivery
pair_apart [] p low h = absurd (omega (arith, low))
pair_apart (q ∷ qs) zero low h = λ e.
    clash (holds (q.delivery ∷ each qs pair_nodes) q.pickup) (held_at (q.delivery ∷ each qs pair_nodes) q.pickup 0 (omega arith) (sym e))
    (fails_not (holds (q.delivery ∷ each qs pair_nodes) q.pickup) (and_left (not (holds (q.delivery ∷ each qs pair_nodes) q.pickup)) _ h))
pair_apart (q ∷ qs) (suc p) low h =
    pair_apart qs p (omega (arith, low))
    (and_right (not (holds (each qs pair_nodes) q.delivery)) _ (and_right (not (holds (q.delivery ∷ each qs pair_nodes) q.pickup)) _ h))

-- ---- lists without a pair

pub pickup_out : (pair : Pair) → not ((pair.pickup == pair.pickup) || (pair.pickup == pair.delivery)) ≡ false
pickup_out pair = elim (eqb_tells pair.pickup pair.pickup) [
  | inl same ↦ ap (λ t. not (t || (pair.pickup == pair.delivery))) same.0
  | inr other ↦ absurd (other.1 refl)
]

pub delivery_out : (pair : Pair) → not ((pair.delivery == pair.pickup) || (pair.delivery == pair.delivery)) ≡ false
delivery_out pair = elim (eqb_tells pair.delivery pair.delivery) [
  | inl same ↦ ap (λ t. not ((pair.delivery == pair.pickup) || t)) same.0 ∙ either (pair.delivery == pair.pickup)
  | inr other ↦ absurd (other.1 refl)
]
  where
    either : (t : Bool) → not (t || true) ≡ false
    either true = refl
    either false = refl

filter_times : (p : ℕ → Bool) (x : ℕ) (xs : List ℕ) → times x (filter p xs) ≤ times x xs
filter_times p x [] = omega arith
filter_times p x (y ∷ ys) = by (p y) (filter_times p x ys)
  where
    by : (t : Bool) → times x (filter p ys) ≤ times x ys → times x (cond t (y ∷ filter p ys) (filter p ys)) ≤ hit x y + times x ys
    by true low = omega (arith, low)
    by false low = omega (arith, low)

none_of_filter : (p : ℕ → Bool) (x : ℕ) (xs : List ℕ) → p x ≡ false → times x (filter p xs) ≡ 0
none_of_filter p x [] out = refl
none_of_filter p x (y ∷ ys) out = elim (here_or_later x y) [
  | inl same ↦ ap (λ t. times x (cond t (y ∷ filter p ys) (filter p ys))) (ap p (sym same.0) ∙ out) ∙ none_of_filter p x ys out
  | inr other ↦ by (p y) (none_of_filter p x ys out) other
]
  where
    by : (t : Bool) → times x (filter p ys) ≡ 0 → hit x y ≡ 0 → times x (cond t (y ∷ filter p ys) (filter p ys)) ≡ 0
    by true free other = omega (arith, free, other)
    by false free other = free

fewer_without : (pair : Pair) (lists : List (List ℕ)) (x : ℕ) → times_in x (map (without_pair pair) lists) ≤ times_in x lists
fewer_without pair [] x = omega arith
fewer_without pair (l ∷ ls) x =
    let here = filter_times (λ node. not ((node == pair.pickup) || (node == pair.delivery))) x l in
    let later = fewer_without pair ls x in
    omega (arith, here, later)

pub none_left : (pair : Pair) (lists : List (List ℕ)) (x : ℕ)
    → not ((x == pair.pickup) || (x == pair.delivery)) ≡ false → times_in x (map (without_pair pair) lists) ≡ 0
none_left pair [] x out = refl
none_left pair (l ∷ ls) x out =
    let here = none_of_filter (λ node. not ((node == pair.pickup) || (node == pair.delivery))) x l out in
    let later = none_left pair ls x out in
    omega (arith, here, later)

-- ---- moves

-- the move makes no visit active
abbrev IsMoving : Move → Type 0
IsMoving (TwoOpt v a b) = Unit {0}
IsMoving (OrOpt v a k t) = Unit {0}
IsMoving (Relocate v a w t) = Unit {0}
IsMoving (Exchange v a w b) = Unit {0}
IsMoving (Cross v a w b) = Unit {0}
IsMoving (MakeInactive v a) = Unit {0}
IsMoving other = ⊥

module _ (model : Model) (lists : List (List ℕ)) where
  fewer_in_one : (x v : ℕ) (list : List ℕ) → v < length lists → times x list ≡ times x (route lists v) → times_in x (slice_set lists v list) ≤ times_in x lists
  fewer_in_one x v list low same = let whole = times_set x lists v list low in omega (arith, whole, same)

  fewer_in_two : (x v w n : ℕ) (list other : List ℕ) → v < length lists → w < length lists → v ≢ w
      → times x list + n ≡ times x (route lists v) → times x other ≡ times x (route lists w) + n
      → times_in x (slice_set (slice_set lists v list) w other) ≤ times_in x lists
  fewer_in_two x v w n list other low low_w apart less more =
      let one = times_set x lists v list low in
      let there : w < length (slice_set lists v list) = omega (arith, low_w, length-set lists v list) in
      let two = times_set x (slice_set lists v list) w other there in
      let same : times x (route (slice_set lists v list) w) ≡ times x (route lists w) = ap (times x) (route_set_other lists v w list (λ e. apart (sym e))) in
      omega (arith, one, two, same, less, more)

  -- a move of the lists makes no node stand more often
  pub no_more : (mv : Move) → is_move model lists mv ≡ true → IsMoving mv → (x : ℕ) → times_in x (apply model lists mv) ≤ times_in x lists
  no_more (TwoOpt v a b) h built x =
      let low : v < length lists = Prim.grind arith in
      let order : a ≤ suc b = Prim.grind arith in
      fewer_in_one x v _ low (reversed_times x (route lists v) a (suc b) order)
  no_more (OrOpt v a k t) h built x =
      let low : v < length lists = Prim.grind arith in
      fewer_in_one x v _ low (moved_times x (route lists v) a k t)
  no_more (Relocate v a w t) h built x =
      let low : v < length lists = Prim.grind arith in
      let low_w : w < length lists = Prim.grind arith in
      let place : a < length (route lists v) = Prim.grind arith in
      let other : (v == w) ≡ false = Prim.grind arith in
      fewer_in_two x v w (hit x (slice_index (route lists v) a)) _ _ low low_w (apart other)
      (removed_times x (route lists v) a place) (inserted_times x (route lists w) t (slice_index (route lists v) a))
    where
      apart : (v == w) ≡ false → v ≢ w
      apart e same = Prim.grind arith
  no_more (Exchange v a w b) h built x =
      let low : v < length lists = Prim.grind arith in
      let low_w : w < length lists = Prim.grind arith in
      let place : a < length (route lists v) = Prim.grind arith in
      let other : b < length (route lists w) = Prim.grind arith in
      let behind : (v == w) ≡ true → a < b = λ e. Prim.grind arith in
      let y : ℕ = slice_index (route lists w) b in
      let z : ℕ = slice_index (route lists v) a in
      let list : List ℕ = slice_set (route lists v) a y in
      let first : List (List ℕ) = slice_set lists v list in
      let one = times_set x lists v list low in
      let put = replaced_times x (route lists v) a y place in
      let low_first : w < length first = omega (arith, low_w, length-set lists v list) in
      let same = kept v a w b y low behind (eqb_tells v w) in
      let there : b < length (route first w) = let e = same.1 in omega (arith, other, e) in
      let two = times_set x first w (slice_set (route first w) b z) low_first in
      let put_two = replaced_times x (route first w) b z there in
      let found : hit x (slice_index (route first w) b) ≡ hit x y = ap (hit x) same.0 in
      omega (arith, one, put, two, put_two, found)
    where
      kept : (v a w b y : ℕ) → v < length lists → ((v == w) ≡ true → a < b) → ((eqb v w ≡ true) × (v ≡ w)) ⊎ ((eqb v w ≡ false) × (v ≢ w))
          → (slice_index (route (slice_set lists v (slice_set (route lists v) a y)) w) b ≡ slice_index (route lists w) b)
          × (length (route (slice_set lists v (slice_set (route lists v) a y)) w) ≡ length (route lists w))
      kept v a w b y low behind (inl same) =
          let order = behind same.0 in
          let list : List ℕ = slice_set (route lists v) a y in
          let row : route (slice_set lists v list) w ≡ list = ap (route (slice_set lists v list)) (sym same.1) ∙ route_set_same lists v list low in (
            ap (λ l. slice_index l b) row ∙ get_or-set_other (route lists v) a b y 0 (λ e. omega (arith, e, order))
                ∙ ap (λ u. slice_index (route lists u) b) same.1,
            ap length row ∙ length-set (route lists v) a y ∙ ap (λ u. length (route lists u)) same.1,
          )
      kept v a w b y low behind (inr other) =
          let row = route_set_other lists v w (slice_set (route lists v) a y) (λ e. other.1 (sym e)) in
          (ap (λ l. slice_index l b) row, ap length row)
  no_more (Cross v a w b) h built x =
      let low_w : w < length lists = Prim.grind arith in
      let order : v < w = Prim.grind arith in
      let low : v < length lists = omega (arith, low_w, order) in
      let list : List ℕ = take b (route lists w) ++ drop a (route lists v) in
      let more : List ℕ = take a (route lists v) ++ drop b (route lists w) in
      let one = times_set x lists v list low in
      let there : w < length (slice_set lists v list) = omega (arith, low_w, length-set lists v list) in
      let two = times_set x (slice_set lists v list) w more there in
      let same : times x (route (slice_set lists v list) w) ≡ times x (route lists w) = ap (times x)
      (route_set_other lists v w list (λ e. omega (arith, e, order))) in
      let cut_v = times_split x a (route lists v) in
      let cut_w = times_split x b (route lists w) in
      let join_v = times_append x (take b (route lists w)) (drop a (route lists v)) in
      let join_w = times_append x (take a (route lists v)) (drop b (route lists w)) in
      omega (arith, one, two, same, cut_v, cut_w, join_v, join_w)
  no_more (MakeInactive v a) h built x =
      let low : v < length lists = Prim.grind arith in
      let place : a < length (route lists v) = Prim.grind arith in
      let one = times_set x lists v (remove (route lists v) a) low in
      let less = removed_times x (route lists v) a place in
      omega (arith, one, less)
  no_more other h built x = absurd built

  pub vehicle_of_test : (v : ℕ) → IsTrue (is_vehicle lists v) → v < length lists
  vehicle_of_test v h = Prim.grind arith

  pub pair_of_test : (p : ℕ) → IsTrue (nat_lt p (length model.pairs)) → p < length model.pairs
  pair_of_test p h = Prim.grind arith

  pub order_of_test : (s t : ℕ) → IsTrue (nat_le s t) → s ≤ t
  order_of_test s t h = Prim.grind arith

  pub place_of_test : (v a : ℕ) → IsTrue (is_place lists v a) → a < length (route lists v)
  place_of_test v a h = Prim.grind arith

  -- after a move of the lists a node stands no more often, or it is a visit that stands once
  abbrev pub IsKept : Move → ℕ → Type 0
  IsKept mv x = (times_in x (apply model lists mv) ≤ times_in x lists) ⊎ ((times_in x (apply model lists mv) ≤ 1) × IsTrue (is_visit model x))

  added : (x u v : ℕ) (list : List ℕ) → v < length lists → IsTrue (is_inactive model lists u) → times x list ≤ times x (route lists v) + hit x u
      → (times_in x (slice_set lists v list) ≤ times_in x lists) ⊎ ((times_in x (slice_set lists v list) ≤ 1) × IsTrue (is_visit model x))
  added x u v list low idle more =
      let whole = times_set x lists v list low in
      elim (here_or_later x u) [
        | inl same ↦ (
            let none : times_in x lists ≡ 0 = ap (λ y. times_in y lists) same.0
            ∙ inactive_times lists u (fails_not (is_active lists u) (and_right (is_visit model u) _ idle)) in
            let one = same.1 in
            inr (omega (arith, whole, more, none, one), subst (λ y. IsTrue (is_visit model y)) (sym same.0) (and_left (is_visit model u) _ idle)))
        | inr other ↦ inl (omega (arith, whole, more, other))
      ]

  -- a pair that stands nowhere in some lists, which hold no node more often, is put in
  put_in_pair : IsWellFormed model → (p : ℕ) (out : List (List ℕ)) (w s t : ℕ) → p < length model.pairs → w < length out → s ≤ t
      → times_in (pair_at model p).pickup out ≡ 0 → times_in (pair_at model p).delivery out ≡ 0 → (x : ℕ) → times_in x out ≤ times_in x lists
      → (times_in x (slice_set out w (with_pair (pair_at model p) s t (route out w))) ≤ times_in x lists)
      ⊎ ((times_in x (slice_set out w (with_pair (pair_at model p) s t (route out w))) ≤ 1) × IsTrue (is_visit model x))
  put_in_pair well p out w s t low_p low order none_x none_y x fewer =
      let pair = pair_at model p in
      let list : List ℕ = route out w in
      let whole = times_set x out w (with_pair pair s t list) low in
      let more = pair_times x list s t pair.pickup pair.delivery order in
      let sound = well.each_pair p (record { pickup = 0; delivery = 0 }) low_p in
      let apart = pair_apart model.pairs p low_p well.no_node_in_pairs_twice in
      elim (here_or_later x pair.pickup) [
        | inl same ↦ elim (here_or_later x pair.delivery) [
          | inl too ↦ absurd (apart (sym same.0 ∙ too.0))
          | inr other ↦ (
              let none : times_in x out ≡ 0 = ap (λ y. times_in y out) same.0 ∙ none_x in
              let one = same.1 in
              inr (omega (arith, whole, more, none, one, other), subst (λ y. IsTrue (is_visit model y)) (sym same.0) sound.pickup_is_visit))
        ]
        | inr other ↦ elim (here_or_later x pair.delivery) [
          | inl same ↦ (
              let none : times_in x out ≡ 0 = ap (λ y. times_in y out) same.0 ∙ none_y in
              let one = same.1 in
              inr (omega (arith, whole, more, none, one, other), subst (λ y. IsTrue (is_visit model y)) (sym same.0) sound.delivery_is_visit))
          | inr later ↦ inl (omega (arith, whole, more, other, later, fewer))
        ]
      ]

  pub kept : IsWellFormed model → (mv : Move) → is_move model lists mv ≡ true → (x : ℕ) → IsKept mv x
  kept well (TwoOpt v a b) h x = inl (no_more (TwoOpt v a b) h tt x)
  kept well (OrOpt v a k t) h x = inl (no_more (OrOpt v a k t) h tt x)
  kept well (Relocate v a w t) h x = inl (no_more (Relocate v a w t) h tt x)
  kept well (Exchange v a w b) h x = inl (no_more (Exchange v a w b) h tt x)
  kept well (Cross v a w b) h x = inl (no_more (Cross v a w b) h tt x)
  kept well (MakeInactive v a) h x = inl (no_more (MakeInactive v a) h tt x)
  kept well (MakeActive u w t) h x =
      let idle = and_left (is_inactive model lists u) _ h in
      let rest = and_right (is_inactive model lists u) _ h in
      let more = inserted_times x (route lists w) t u in
      added x u w (insert (route lists w) t u) (vehicle_of_test w (and_left (is_vehicle lists w) _ rest)) idle (omega (arith, more))
  kept well (SwapActive v a u) h x =
      let low = vehicle_of_test v (and_left (is_vehicle lists v) _ h) in
      let rest = and_right (is_vehicle lists v) _ h in
      let place = place_of_test v a (and_left (is_place lists v a) _ rest) in
      let more = replaced_times x (route lists v) a u place in
      added x u v (slice_set (route lists v) a u) low (and_right (is_place lists v a) _ rest) (omega (arith, more))
  kept well (PairActive p w s t) h x =
      let free = and_left (is_pair_inactive model lists p) _ h in
      let rest = and_right (is_pair_inactive model lists p) _ h in
      let pair = pair_at model p in
      let low_p : p < length model.pairs = pair_of_test p (and_left (nat_lt p (length model.pairs)) _ rest) in
      let low : w < length lists = vehicle_of_test w (and_left (is_vehicle lists w) _ (and_right (nat_lt p (length model.pairs)) _ rest)) in
      let order : s ≤ t = order_of_test s t (and_left (nat_le s t) _ (and_right (is_vehicle lists w) _ (and_right (nat_lt p (length model.pairs)) _ rest))) in
      let none_x = inactive_times lists pair.pickup (fails_not (is_active lists pair.pickup) (and_left (not (is_active lists pair.pickup)) _ free)) in
      let none_y = inactive_times lists pair.delivery (fails_not (is_active lists pair.delivery) (and_right (not (is_active lists pair.pickup)) _ free)) in
      put_in_pair well p lists w s t low_p low order none_x none_y x (omega arith)
  kept well (PairInactive p) h x = inl (fewer_without (pair_at model p) lists x)
  kept well (RelocatePair p w s t) h x =
      let pair = pair_at model p in
      let rest = and_right (is_pair_served model lists p) _ h in
      let numbers = and_left (may_put_pair model lists p w (length (without_pair pair (route lists w))) s t) _ rest in
      let low_p : p < length model.pairs = pair_of_test p (and_left (nat_lt p (length model.pairs)) _ numbers) in
      let low : w < length lists = vehicle_of_test w (and_left (is_vehicle lists w) _ (and_right (nat_lt p (length model.pairs)) _ numbers)) in
      let order : s ≤ t = order_of_test s t
      (and_left (nat_le s t) _ (and_right (is_vehicle lists w) _ (and_right (nat_lt p (length model.pairs)) _ numbers))) in
      let out : List (List ℕ) = map (without_pair pair) lists in
      let fewer = fewer_without pair lists x in
      put_in_pair well p out w s t low_p (omega (arith, low, length-map lists (without_pair pair))) order
      (none_left pair lists pair.pickup (pickup_out pair)) (none_left pair lists pair.delivery (delivery_out pair)) x fewer
