-- No move leaves lists of a model as they are.
use Rattle.std.proofs.Common.{◌⊎◌, ◌≡◌, ◌≢◌, ◌∙◌, ℕ, suc, ◌+◌, ◌-◌, ◌<◌, ◌≤◌, true, false, ◌&&◌, ◌||◌, cond, List, [], ◌∷◌, ◌++◌, length, map, reverse, take}
use Rattle.std.proofs.Common.{drop, refl, sym, ap, subst, inl, inr, arith, length-set, length-append}
use Rattle.std.specs.Prelude.{IsTrue, ◌==◌, nat_lt, nat_le, slice_index, slice_range, slice_set, insert, remove}
use Rattle.std.specs.List.{list_any}
use Rattle.std.proofs.lemmas.Bool.{cases_lt}
use Rattle.std.proofs.lemmas.Bool.Decides.{eqb_tells}
use Rattle.std.proofs.lemmas.List.{get_or-set_same, get_or_append_left, get_or-append-add, get_or-reverse, get_or-take, get_or-drop, get_or-map, length-map}
use Rattle.std.proofs.lemmas.List.{length-take-le, length-drop, length-reverse}
use Rattle.vr_model.specs.deciding.Testing.{and_left, and_right, or_cases, test_of_eq}
use Rattle.vr_model.specs.tables.Tables.{is_visit, pair_at}
use Rattle.vr_model.specs.routes.Routes.{route, holds, is_same, is_active, are_lists}
use Rattle.vr_model.specs.moves.Moves.{apply, with_route, reversed_between, chain_moved, with_pair, without_pair, is_pair_served, is_pair_inactive, has_chain}
use Rattle.vr_model.specs.moves.Moves.{has_some_front}
use Rattle.vr_model.specs.moves.MoveTests.{is_vehicle, is_place, is_gap, is_inactive, may_put_pair, is_move}
use Rattle.vr_model.specs.moves.MoveLaws.{MovesChangeLists}
use Rattle.vr_model.specs.declared.records.Model.{Model}
use Rattle.vr_model.specs.declared.records.Pair.{Pair}
use Rattle.vr_model.specs.declared.neighbours.Move.{Move}
use Rattle.vr_model.specs.declared.neighbours.Move.TheVariants.{TwoOpt, OrOpt, Relocate, Exchange, Cross, MakeActive, MakeInactive, SwapActive, PairActive}
use Rattle.vr_model.specs.declared.neighbours.Move.TheVariants.{PairInactive, RelocatePair}
use Rattle.vr_model.proofs.tables.Tests.{clash, fails_not, lt_of_test}
use Rattle.vr_model.proofs.routes.Lists.{route_set_same, route_set_other, is_same-self}
use Rattle.vr_model.proofs.moves.Times.{hit, times, times_in, at_least_one, at_least_two, held_times, times_route, times_routes}
use Rattle.vr_model.proofs.moves.Kept.{inactive_times, removed_times, inserted_times, pair_times, pickup_out, none_left, vehicle_of_test, place_of_test}
use Rattle.vr_model.proofs.moves.Kept.{order_of_test}
use Rattle.vr_model.proofs.moves.KeptLists.{few}

hit-self : (x : ℕ) → hit x x ≡ 1
hit-self x = ap (λ t. cond t 1 0) (test_of_eq x x refl)

-- the first of the places that are reversed has the last of them
first_reversed : (xs : List ℕ) (a b : ℕ) → a < b → b < length xs → slice_index (reversed_between xs a (suc b)) a ≡ slice_index xs b
first_reversed xs a b order low =
    let middle : List ℕ = slice_range xs a (suc b) in
    let front = length-take-le a xs (omega (arith, order, low)) in
    let there = length-drop a xs in
    let long : length (slice_range xs a (suc b)) ≡ suc b - a = length-take-le (suc b - a) (drop a xs) (omega (arith, there, order, low)) in
    let turned = length-reverse (slice_range xs a (suc b)) in
    let at : a ≡ length (take a xs) + 0 = omega (arith, front) in
    let last : length (slice_range xs a (suc b)) - 1 - 0 ≡ b - a = omega (arith, long, order) in
    let back : a + (b - a) ≡ b = omega (arith, order) in
    ap (slice_index (reversed_between xs a (suc b))) at
    ∙ get_or-append-add (take a xs) (reverse middle ++ drop (suc b) xs) 0 0
    ∙ get_or_append_left (reverse middle) (drop (suc b) xs) 0 0 (omega (arith, turned, long, order))
    ∙ get_or-reverse middle 0 0 (omega (arith, long, order))
    ∙ ap (λ k. slice_index (slice_range xs a (suc b)) k) last
    ∙ get_or-take (suc b - a) (drop a xs) (b - a) 0 (omega (arith, order))
    ∙ get_or-drop a xs (b - a) 0 ∙ ap (slice_index xs) back

-- where a chain is put stands its first node
first_moved : (xs : List ℕ) (a k t : ℕ) → 1 ≤ k → a + k ≤ length xs → t ≤ length xs - k → slice_index (chain_moved xs a k t) t ≡ slice_index xs a
first_moved xs a k t some low place =
    let rest : List ℕ = take a xs ++ drop (a + k) xs in
    let chain : List ℕ = slice_range xs a (a + k) in
    let front = length-take-le a xs (omega (arith, low)) in
    let behind = length-drop (a + k) xs in
    let both = length-append (take a xs) (drop (a + k) xs) in
    let before = length-take-le t rest (omega (arith, front, behind, both, low, place)) in
    let there = length-drop a xs in
    let long = length-take-le (a + k - a) (drop a xs) (omega (arith, there, low)) in
    let at : t ≡ length (take t rest) + 0 = omega (arith, before) in
    let begin : a + 0 ≡ a = omega arith in
    ap (slice_index (chain_moved xs a k t)) at
    ∙ get_or-append-add (take t rest) (chain ++ drop t rest) 0 0
    ∙ get_or_append_left chain (drop t rest) 0 0 (omega (arith, long, some))
    ∙ get_or-take (a + k - a) (drop a xs) 0 0 (omega (arith, some))
    ∙ get_or-drop a xs 0 0 ∙ ap (slice_index xs) begin

-- the places of an exchange within one list, or its two lists, are in order
within_one : (v w a b : ℕ) → IsTrue (nat_lt v w || ((v == w) && nat_lt a b)) → (v == w) ≡ true → a < b
within_one v w a b h e = Prim.grind arith

between_two : (v w a b : ℕ) → IsTrue (nat_lt v w || ((v == w) && nat_lt a b)) → (v == w) ≡ false → v < w
between_two v w a b h e = Prim.grind arith

some_front : (a b : ℕ) → IsTrue (has_some_front a b) → a ≡ 0 → b ≡ 0 → ⊥
some_front a b h none nor = Prim.grind arith

-- a node of a list that stands among others
standing_together : (lists : List (List ℕ)) (x y : ℕ) → IsTrue (list_any (λ list. holds list x && holds list y) lists) → 1 ≤ times_in x lists
standing_together [] x y h = absurd (clash false h refl)
standing_together (l ∷ ls) x y h = elim (or_cases (holds l x && holds l y) _ h) [
  | inl here ↦ (let one = held_times x l (and_left (holds l x) _ here) in omega (arith, one))
  | inr later ↦ (let r = standing_together ls x y later in omega (arith, r))
]

module _ (model : Model) (lists : List (List ℕ)) (are : IsTrue (are_lists model lists)) where
  -- no two places of a list have the same node
  apart_in : (v j k : ℕ) → j < k → k < length (route lists v) → slice_index (route lists v) j ≡ slice_index (route lists v) k → ⊥
  apart_in v j k order low e =
      let two = at_least_two (slice_index (route lists v) k) (route lists v) j k order low e refl in
      let all = times_route (slice_index (route lists v) k) lists v in
      let one = few model lists are (slice_index (route lists v) k) in
      omega (arith, two, all, one)

  -- nor do two lists
  apart_between : (v w j k : ℕ) → v < w → j < length (route lists v) → k < length (route lists w)
      → slice_index (route lists v) j ≡ slice_index (route lists w) k → ⊥
  apart_between v w j k order low next e =
      let here = at_least_one (slice_index (route lists w) k) (route lists v) j low e in
      let there = at_least_one (slice_index (route lists w) k) (route lists w) k next refl in
      let all = times_routes (slice_index (route lists w) k) lists v w order in
      let one = few model lists are (slice_index (route lists w) k) in
      omega (arith, here, there, all, one)

  -- the list that one list was replaced by
  set_one : (v : ℕ) (list : List ℕ) → v < length lists → with_route lists v list ≡ lists → list ≡ route lists v
  set_one v list low e = sym (route_set_same lists v list low) ∙ ap (λ ls. route ls v) e

  -- and of two
  set_first : (v w : ℕ) (list other : List ℕ) → v < length lists → v ≢ w → with_route (with_route lists v list) w other ≡ lists → list ≡ route lists v
  set_first v w list other low apart e = sym (route_set_other (with_route lists v list) w v other apart ∙ route_set_same lists v list low)
      ∙ ap (λ ls. route ls v) e

  set_second : (v w : ℕ) (list other : List ℕ) → w < length lists → with_route (with_route lists v list) w other ≡ lists → other ≡ route lists w
  set_second v w list other low e = sym (route_set_same (with_route lists v list) w other (omega (arith, low, length-set lists v list)))
      ∙ ap (λ ls. route ls w) e

  exchanged : (v a w b : ℕ) → v < length lists → w < length lists → a < length (route lists v) → b < length (route lists w)
      → (((v == w) ≡ true) × (v ≡ w)) ⊎ (((v == w) ≡ false) × (v ≢ w)) → ((v == w) ≡ true → a < b)
      → ((v == w) ≡ false → v < w) → apply model lists (Exchange v a w b) ≢ lists
  exchanged v a w b low next place other same within between e = elim same [
    | inl one ↦ (
        let list : List ℕ = slice_set (route lists v) a (slice_index (route lists w) b) in
        let row : route (with_route lists v list) w ≡ list = ap (route (with_route lists v list)) (sym one.1) ∙ route_set_same lists v list low in
        let there : b < length (route (with_route lists v list) w) = (let m = length-set (route lists v) a (slice_index (route lists w) b) in
        let r = ap length row in let u = ap (λ u. length (route lists u)) one.1 in omega (arith, other, m, r, u)) in
        let put = get_or-set_same (route (with_route lists v list) w) b (slice_index (route lists v) a) 0 there in
        let found = ap (λ l. slice_index l b) (set_second v w list (slice_set (route (with_route lists v list) w) b (slice_index (route lists v) a)) next e) in
        apart_in w a b (within one.0) other (ap (λ u. slice_index (route lists u) a) (sym one.1) ∙ sym put ∙ found))
    | inr two ↦ (
        let put = get_or-set_same (route lists v) a (slice_index (route lists w) b) 0 place in
        let found = ap (λ l. slice_index l a) (set_first v w (slice_set (route lists v) a (slice_index (route lists w) b)) _ low two.1 e) in
        apart_between v w a b (between two.0) place other (sym found ∙ put))
  ]

  crossed : (v a w b : ℕ) → v < length lists → v < w → a ≤ length (route lists v)
      → b ≤ length (route lists w) → ((a ≡ 0) → (b ≡ 0) → ⊥) → apply model lists (Cross v a w b) ≢ lists
  crossed v a w b low order front other some e =
      let same = set_first v w (take b (route lists w) ++ drop a (route lists v)) _ low (λ u. omega (arith, u, order)) e in
      let long = ap length same in
      let joined = length-append (take b (route lists w)) (drop a (route lists v)) in
      let taken = length-take-le b (route lists w) other in
      let left = length-drop a (route lists v) in
      let equal : a ≡ b = omega (arith, long, joined, taken, left, front) in
      elim (cases_lt 0 b) [
        | inl more ↦ apart_between v w 0 0 order (omega (arith, equal, front, more)) (omega (arith, other, more))
            (sym (ap (λ l. slice_index l 0) same) ∙ get_or_append_left (take b (route lists w)) (drop a (route lists v)) 0 0 (omega (arith, taken, more))
            ∙ get_or-take b (route lists w) 0 0 more)
        | inr none ↦ some (omega (arith, equal, none)) (omega (arith, none))
      ]

  pair_replaced : (pair : Pair) (w s t : ℕ) → w < length lists
      → with_route (map (without_pair pair) lists) w (with_pair pair s t (route (map (without_pair pair) lists) w)) ≡ lists
      → with_pair pair s t (without_pair pair (route lists w)) ≡ route lists w
  pair_replaced pair w s t low e =
      let many : length (map (without_pair pair) lists) ≡ length lists = length-map lists (without_pair pair) in
      ap (with_pair pair s t) (sym (get_or-map (without_pair pair) lists w [] [] low))
      ∙ sym (route_set_same (map (without_pair pair) lists) w (with_pair pair s t (route (map (without_pair pair) lists) w)) (omega (arith, low, many)))
      ∙ ap (λ ls. route ls w) e

  pub changed : (mv : Move) → IsTrue (is_move model lists mv) → apply model lists mv ≢ lists
  changed (TwoOpt v a b) h e =
      let low : v < length lists = Prim.grind arith in
      let order : a < b = Prim.grind arith in
      let place : b < length (route lists v) = Prim.grind arith in
      apart_in v a b order place (sym (ap (λ l. slice_index l a) (set_one v _ low e)) ∙ first_reversed (route lists v) a b order place)
  changed (OrOpt v a k t) h e =
      let numbers = and_right (is_vehicle lists v) _ h in
      let lengths = and_left (nat_le 1 k && nat_le k 3) _ numbers in
      let rest = and_right (nat_le 1 k && nat_le k 3) _ numbers in
      let last = and_right (has_chain (route lists v) a k) _ rest in
      let low : v < length lists = vehicle_of_test model lists v (and_left (is_vehicle lists v) _ h) in
      let some : 1 ≤ k = order_of_test model lists 1 k (and_left (nat_le 1 k) _ lengths) in
      let chain : a + k ≤ length (route lists v) = order_of_test model lists (a + k)
      (length (route lists v)) (and_left (has_chain (route lists v) a k) _ rest) in
      let place : t ≤ length (route lists v) - k = order_of_test model lists t
      (length (route lists v) - k) (and_left (nat_le t (length (route lists v) - k)) _ last) in
      let other : (a == t) ≡ false = fails_not (a == t) (and_right (nat_le t (length (route lists v) - k)) _ last) in
      let same : slice_index (route lists v) t ≡ slice_index (route lists v) a = sym (ap (λ l. slice_index l t) (set_one v _ low e))
      ∙ first_moved (route lists v) a k t some chain place in
      elim (cases_lt a t) [
        | inl more ↦ apart_in v a t more (omega (arith, place, some, chain)) (sym same)
        | inr less ↦ elim (cases_lt t a) [
          | inl before ↦ apart_in v t a before (omega (arith, some, chain)) same
          | inr equal ↦ clash (a == t) (test_of_eq a t (omega (arith, less, equal))) other
        ]
      ]
  changed (Relocate v a w t) h e =
      let low : v < length lists = Prim.grind arith in
      let place : a < length (route lists v) = Prim.grind arith in
      let other : (v == w) ≡ false = Prim.grind arith in
      let x : ℕ = slice_index (route lists v) a in
      let same = ap (times x) (set_first v w (remove (route lists v) a) _ low (λ u. clash (v == w) (test_of_eq v w u) other) e) in
      let less = removed_times x (route lists v) a place in
      let one = hit-self x in
      omega (arith, same, less, one)
  changed (Exchange v a w b) h e =
      let one = and_right (is_vehicle lists v) _ h in
      let two = and_right (is_vehicle lists w) _ one in
      let three = and_right (is_place lists v a) _ two in
      let order = and_right (is_place lists w b) _ three in
      let low = vehicle_of_test model lists v (and_left (is_vehicle lists v) _ h) in
      let next = vehicle_of_test model lists w (and_left (is_vehicle lists w) _ one) in
      let place = place_of_test model lists v a (and_left (is_place lists v a) _ two) in
      let other = place_of_test model lists w b (and_left (is_place lists w b) _ three) in
      exchanged v a w b low next place other (eqb_tells v w) (within_one v w a b order) (between_two v w a b order) e
  changed (Cross v a w b) h e =
      let one = and_right (is_vehicle lists w) _ h in
      let two = and_right (nat_lt v w) _ one in
      let three = and_right (is_gap lists v a) _ two in
      let next = vehicle_of_test model lists w (and_left (is_vehicle lists w) _ h) in
      let order = lt_of_test v w (and_left (nat_lt v w) _ one) in
      let front = order_of_test model lists a (length (route lists v)) (and_left (is_gap lists v a) _ two) in
      let other = order_of_test model lists b (length (route lists w)) (and_left (is_gap lists w b) _ three) in
      crossed v a w b (omega (arith, next, order)) order front other (some_front a b (and_right (is_gap lists w b) _ three)) e
  changed (RelocatePair p w s t) h e =
      let pair = pair_at model p in
      let rest = and_right (is_pair_served model lists p) _ h in
      let numbers = and_left (may_put_pair model lists p w (length (without_pair pair (route lists w))) s t) _ rest in
      let low : w < length lists = vehicle_of_test model lists w (and_left (is_vehicle lists w) _ (and_right (nat_lt p (length model.pairs)) _ numbers)) in
      let new = fails_not (is_same (with_pair pair s t (without_pair pair (route lists w))) (route lists w))
      (and_right (may_put_pair model lists p w (length (without_pair pair (route lists w))) s t) _ rest) in
      let same = pair_replaced pair w s t low e in
      clash (is_same (with_pair pair s t (without_pair pair (route lists w))) (route lists w))
      (subst (λ l. IsTrue (is_same l (route lists w))) (sym same) (is_same-self (route lists w))) new
  changed (PairActive p w s t) h e =
      let pair = pair_at model p in
      let rest = and_right (is_pair_inactive model lists p) _ h in
      let low : w < length lists = vehicle_of_test model lists w (and_left (is_vehicle lists w) _ (and_right (nat_lt p (length model.pairs)) _ rest)) in
      let order : s ≤ t = order_of_test model lists s t
      (and_left (nat_le s t) _ (and_right (is_vehicle lists w) _ (and_right (nat_lt p (length model.pairs)) _ rest))) in
      let same = ap (times pair.pickup) (set_one w _ low e) in
      let more = pair_times pair.pickup (route lists w) s t pair.pickup pair.delivery order in
      let one = hit-self pair.pickup in
      omega (arith, same, more, one)
  changed (PairInactive p) h e =
      let pair = pair_at model p in
      let some = standing_together lists pair.pickup pair.delivery (and_right (nat_lt p (length model.pairs)) _ h) in
      let none = none_left pair lists pair.pickup (pickup_out pair) in
      let same = ap (times_in pair.pickup) e in
      omega (arith, some, none, same)
  changed (MakeActive u w t) h e =
      let low = vehicle_of_test model lists w (and_left (is_vehicle lists w) _ (and_right (is_inactive model lists u) _ h)) in
      let same = ap (times u) (set_one w (insert (route lists w) t u) low e) in
      let more = inserted_times u (route lists w) t u in
      let one = hit-self u in
      omega (arith, same, more, one)
  changed (MakeInactive v a) h e =
      let low : v < length lists = Prim.grind arith in
      let place : a < length (route lists v) = Prim.grind arith in
      let x : ℕ = slice_index (route lists v) a in
      let same = ap (times x) (set_one v (remove (route lists v) a) low e) in
      let less = removed_times x (route lists v) a place in
      let one = hit-self x in
      omega (arith, same, less, one)
  changed (SwapActive v a u) h e =
      let low = vehicle_of_test model lists v (and_left (is_vehicle lists v) _ h) in
      let rest = and_right (is_vehicle lists v) _ h in
      let place = place_of_test model lists v a (and_left (is_place lists v a) _ rest) in
      let idle = and_right (is_place lists v a) _ rest in
      let none = inactive_times lists u (fails_not (is_active lists u) (and_right (is_visit model u) _ idle)) in
      let put = get_or-set_same (route lists v) a u 0 place in
      let found = ap (λ l. slice_index l a) (set_one v (slice_set (route lists v) a u) low e) in
      let one = at_least_one u (route lists v) a place (sym found ∙ put) in
      let all = times_route u lists v in
      omega (arith, none, one, all)

pub moves_change_lists : MovesChangeLists
moves_change_lists model lists mv are h = changed model lists are mv h
