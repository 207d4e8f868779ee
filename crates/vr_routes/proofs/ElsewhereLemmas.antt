-- Pairs that are served, and those that are put elsewhere.
use Rattle.std.proofs.Common.{◌≡◌, ◌≢◌, ◌∙◌, ℕ, zero, suc, ◌+◌, ◌-◌, ◌<◌, ◌≤◌, Bool, true, false, cond, not, ◌&&◌, List, [], ◌∷◌, ◌++◌, length, map, take, drop}
use Rattle.std.proofs.Common.{refl, sym, ap, subst, inl, inr, arith, append_assoc, length-set}
use Rattle.std.specs.Prelude.{IsTrue, ◌==◌, nat_lt, nat_le, slice_index, slice_range, slice_set}
use Rattle.std.proofs.lemmas.Bool.{cases_lt}
use Rattle.std.proofs.lemmas.Bool.Decides.{eqb_tells}
use Rattle.std.proofs.lemmas.List.{length-take-le, length-append, length-drop}
use Rattle.std.proofs.Math.Seq.{get_or-append_seam, take-append_seam, drop-append_seam}
use Rattle.vr_model.proofs.routes.Lists.{held_at, place_of_held, route_set_other, route_set_same}
use Rattle.vr_model.specs.deciding.Testing.{or_cases, or_left, or_right, and_left, and_right, and_both, eq_of_test, test_of_eq}
use Rattle.vr_model.proofs.tables.Tests.{clash, fails, same_tests, test_of_lt}
use Rattle.vr_model.specs.routes.Routes.{route, holds, is_same}
use Rattle.vr_model.specs.moves.Moves.{without_pair, with_pair, changes_the_list, comes_before}
use Rattle.vr_model.specs.moves.MoveTests.{is_vehicle, may_put_pair}
use Rattle.vr_model.specs.declared.records.Model.{Model}
use Rattle.vr_model.specs.declared.records.Pair.{Pair}
use Rattle.vr_routes.specs.Seats.{IsSeat, IsOnce}
use Rattle.vr_routes.specs.Pairs.{are_together, are_in_order, ArePairPlaces, IsGap, without_two, is_elsewhere}
use Rattle.vr_routes.proofs.TourLemmas.{set_twice}
use Rattle.vr_model.proofs.moves.Times.{times, times_set, at_least_one}
use Rattle.vr_routes.proofs.OnceLemmas.{few_times}
use Rattle.vr_routes.proofs.PairLemmas.{together_at}
use Rattle.vr_routes.proofs.WithoutLemmas.{nothing_out, pickup_first, row_times, split_at_two, pair_out}
use Rattle.vr_routes.proofs.RestLemmas.{two_fewer}

-- ---- pairs that are served

before_places : (xs : List ℕ) (x y : ℕ) → IsTrue (comes_before xs x y)
    → (k : ℕ) × (j : ℕ) × (k < j) × (j < length xs) × (slice_index xs k ≡ x) × (slice_index xs j ≡ y)
before_places [] x y h = absurd (clash false h refl)
before_places (z ∷ zs) x y h = elim (eqb_tells z x) [
  | inl here ↦ (let p = place_of_held zs y (subst (λ t. IsTrue (cond t (holds zs y) (comes_before zs x y))) here.0 h) in
      (0, suc p.0, omega arith, (let low = p.1 in omega (arith, low)), here.1, p.2))
  | inr other ↦ (let r = before_places zs x y (subst (λ t. IsTrue (cond t (holds zs y) (comes_before zs x y))) other.0 h) in
      (suc r.0, suc r.1, (let order = r.2 in omega (arith, order)), (let low = r.3 in omega (arith, low)), r.4, r.5))
]

before_at : (xs : List ℕ) (x y k j : ℕ) → k < j → j < length xs → slice_index xs k ≡ x → slice_index xs j ≡ y → IsTrue (comes_before xs x y)
before_at [] x y k j order low e f = absurd (omega (arith, low))
before_at (z ∷ zs) x y k zero order low e f = absurd (omega (arith, order))
before_at (z ∷ zs) x y k (suc j) order low e f = elim (eqb_tells z x) [
  | inl here ↦ subst (λ t. IsTrue (cond t (holds zs y) (comes_before zs x y))) (sym here.0) (held_at zs y j (omega (arith, low)) f)
  | inr other ↦ subst (λ t. IsTrue (cond t (holds zs y) (comes_before zs x y))) (sym other.0)
      (later (λ i i_order i_found. before_at zs x y i j i_order (omega (arith, low)) i_found f) k order e other.1)
]
  where
    later : ((i : ℕ) → i < j → slice_index zs i ≡ x → IsTrue (comes_before zs x y)) → (k : ℕ)
        → k < suc j → slice_index (z ∷ zs) k ≡ x → z ≢ x → IsTrue (comes_before zs x y)
    later at zero order e differ = absurd (differ e)
    later at (suc k) order e differ = at k (omega (arith, order)) e

order_seats : (lists : List (List ℕ)) (x y : ℕ) → IsTrue (are_in_order lists x y)
    → (v : ℕ) × (k : ℕ) × (j : ℕ) × (k < j) × IsSeat lists x v k × IsSeat lists y v j
order_seats [] x y h = absurd (clash false h refl)
order_seats (l ∷ ls) x y h = elim (or_cases (comes_before l x y) _ h) [
  | inl here ↦ (let p = before_places l x y here in (
    0,
    p.0,
    p.1,
    p.2,
    record { vehicle = omega arith; place = (let order = p.2 in let low = p.3 in omega (arith, order, low)); found = p.4 },
    record { vehicle = omega arith; place = p.3; found = p.5 },
  ))
  | inr later ↦ (let r = order_seats ls x y later in (
    suc r.0,
    r.1,
    r.2,
    r.3,
    record { vehicle = (let low = r.4.vehicle in omega (arith, low)); place = r.4.place; found = r.4.found },
    record { vehicle = (let low = r.5.vehicle in omega (arith, low)); place = r.5.place; found = r.5.found },
  ))
]

order_at : (lists : List (List ℕ)) (x y v k j : ℕ) → k < j → IsSeat lists x v k → IsSeat lists y v j → IsTrue (are_in_order lists x y)
order_at [] x y v k j order a b = absurd (let low = a.vehicle in omega (arith, low))
order_at (l ∷ ls) x y zero k j order a b = or_left (comes_before l x y) _ (before_at l x y k j order b.place a.found b.found)
order_at (l ∷ ls) x y (suc v) k j order a b = or_right (comes_before l x y) _ (order_at ls x y v k j order
    (record { vehicle = (let low = a.vehicle in omega (arith, low)); place = a.place; found = a.found })
    (record { vehicle = (let low = b.vehicle in omega (arith, low)); place = b.place; found = b.found }))

-- a pair that is not together is not served
pub apart_not_served : (lists : List (List ℕ)) (x y : ℕ) → are_together lists x y ≡ false → are_in_order lists x y ≡ false
apart_not_served lists x y apart =
    fails (are_in_order lists x y) (λ h. let s = order_seats lists x y h in clash (are_together lists x y) (together_at lists x y s.0 s.1 s.2 s.4 s.5) apart)

pub is_behind : (k j : ℕ) → j ≤ k → nat_lt k j ≡ false
is_behind k j low = Prim.grind arith

pub second_fails : (a b : Bool) → b ≡ false → a && b ≡ false
second_fails true b e = e
second_fails false b e = refl

-- a pair that there is not, or that is not together, is not served
pub not_served : (there : Bool) (lists : List (List ℕ)) (x y : ℕ) → there && are_together lists x y ≡ false → there && are_in_order lists x y ≡ false
not_served true lists x y e = apart_not_served lists x y e
not_served false lists x y e = refl

pub served_tells : (lists : List (List ℕ)) (x y v k j : ℕ) → IsOnce lists → IsSeat lists x v k → IsSeat lists y v j → are_in_order lists x y ≡ nat_lt k j
served_tells lists x y v k j once a b = elim (cases_lt k j) [
  | inl before ↦ order_at lists x y v k j before a b ∙ sym (test_of_lt k j before)
  | inr behind ↦ fails (are_in_order lists x y) (λ h.
      let s = order_seats lists x y h in
      let same_k = (once x v k s.0 s.1 a s.4).1 in
      let same_j = (once y v j s.0 s.2 b s.5).1 in
      let order = s.3 in
      omega (arith, same_k, same_j, order, behind)) ∙ sym (is_behind k j behind)
]

-- ---- lists that are the same

pub same_of_test : (xs ys : List ℕ) → IsTrue (is_same xs ys) → xs ≡ ys
same_of_test [] [] h = refl
same_of_test [] (y ∷ ys) h = absurd (clash false h refl)
same_of_test (x ∷ xs) [] h = absurd (clash false h refl)
same_of_test (x ∷ xs) (y ∷ ys) h =
    ap (λ k. k ∷ xs) (eq_of_test x y (and_left (x == y) _ h)) ∙ ap (λ l. y ∷ l) (same_of_test xs ys (and_right (x == y) _ h))

test_of_same : (xs : List ℕ) → IsTrue (is_same xs xs)
test_of_same [] = refl
test_of_same (x ∷ xs) = and_both (x == x) _ (test_of_eq x x refl) (test_of_same xs)

-- ---- lists with a pair

module _ (pair : Pair) (rest : List ℕ) (s t : ℕ) (order : s ≤ t) (low : t ≤ length rest) where
  abbrev put : List ℕ
  put = with_pair pair s t rest

  front_length : length (take s rest) ≡ s
  front_length = length-take-le s rest (omega (arith, order, low))

  mid_length : length (slice_range rest s t) ≡ t - s
  mid_length = length-take-le (t - s) (drop s rest) (omega (arith, order, low, length-drop s rest))

  pub put_length : length put ≡ length rest + 2
  put_length =
      let a = length-append (take s rest) (pair.pickup ∷ (slice_range rest s t ++ (pair.delivery ∷ drop t rest))) in
      let b = length-append (slice_range rest s t) (pair.delivery ∷ drop t rest) in
      let c = length-drop t rest in
      omega (arith, a, b, c, front_length, mid_length, order, low)

  pub pickup_at : slice_index put s ≡ pair.pickup
  pickup_at = ap (slice_index put) (sym front_length) ∙ get_or-append_seam (take s rest) pair.pickup (slice_range rest s t ++ (pair.delivery ∷ drop t rest)) 0

  pub delivery_at : slice_index put (suc t) ≡ pair.delivery
  delivery_at =
      let front : List ℕ = take s rest ++ (pair.pickup ∷ slice_range rest s t) in
      let many : suc t ≡ length front = omega (arith, length-append (take s rest) (pair.pickup ∷ slice_range rest s t), front_length, mid_length, order) in
      ap (λ l. slice_index l (suc t)) (sym (append_assoc (take s rest) (pair.pickup ∷ slice_range rest s t) (pair.delivery ∷ drop t rest)))
      ∙ ap (slice_index (front ++ (pair.delivery ∷ drop t rest))) many ∙ get_or-append_seam front pair.delivery (drop t rest) 0

-- a pair is put back
put_back : (pair : Pair) (xs : List ℕ) (lo hi : ℕ) → lo < hi → hi < length xs → slice_index xs lo ≡ pair.pickup → slice_index xs hi ≡ pair.delivery
    → with_pair pair lo (hi - 1) (without_two xs lo hi) ≡ xs
put_back pair xs lo hi order low p d =
    ap (λ l. l ++ (pair.pickup ∷ (slice_range rest lo mid ++ (pair.delivery ∷ drop mid rest)))) first
    ∙ ap (λ l. take lo xs ++ (pair.pickup ∷ (l ++ (pair.delivery ∷ drop mid rest)))) second
    ∙ ap (λ l. take lo xs ++ (pair.pickup ∷ (slice_range xs (suc lo) hi ++ (pair.delivery ∷ l)))) third
    ∙ ap (λ n. take lo xs ++ (n ∷ (slice_range xs (suc lo) hi ++ (pair.delivery ∷ drop (suc hi) xs)))) (sym p)
    ∙ ap (λ n. take lo xs ++ (slice_index xs lo ∷ (slice_range xs (suc lo) hi ++ (n ∷ drop (suc hi) xs)))) (sym d)
    ∙ sym (split_at_two xs lo hi order low)
  where
    mid : ℕ
    mid = hi - 1

    front : List ℕ
    front = take lo xs

    inner : List ℕ
    inner = slice_range xs (suc lo) hi

    back : List ℕ
    back = drop (suc hi) xs

    rest : List ℕ
    rest = front ++ (inner ++ back)

    front_is : length (take lo xs) ≡ lo
    front_is = length-take-le lo xs (omega (arith, order, low))

    inner_is : length (slice_range xs (suc lo) hi) ≡ hi - suc lo
    inner_is = length-take-le (hi - suc lo) (drop (suc lo) xs) (omega (arith, order, low, length-drop (suc lo) xs))

    whole : {A : Type 0} (ys zs : List A) (n : ℕ) → length ys ≡ n → take n (ys ++ zs) ≡ ys
    whole ys zs n e = ap (λ k. take k (ys ++ zs)) (sym e) ∙ take-append_seam ys zs

    past : {A : Type 0} (ys zs : List A) (n : ℕ) → length ys ≡ n → drop n (ys ++ zs) ≡ zs
    past ys zs n e = ap (λ k. drop k (ys ++ zs)) (sym e) ∙ drop-append_seam ys zs

    first : take lo rest ≡ take lo xs
    first = whole (take lo xs) (slice_range xs (suc lo) hi ++ drop (suc hi) xs) lo front_is

    second : slice_range rest lo mid ≡ slice_range xs (suc lo) hi
    second =
        ap (take (mid - lo)) (past (take lo xs) (slice_range xs (suc lo) hi ++ drop (suc hi) xs) lo front_is)
        ∙ whole (slice_range xs (suc lo) hi) (drop (suc hi) xs) (mid - lo) (inner_is ∙ (let e : hi - suc lo ≡ (hi - 1) - lo = omega (arith, order) in e))

    third : drop mid rest ≡ drop (suc hi) xs
    third =
        ap (drop mid) (sym (append_assoc (take lo xs) (slice_range xs (suc lo) hi) (drop (suc hi) xs)))
        ∙ past (take lo xs ++ slice_range xs (suc lo) hi) (drop (suc hi) xs) mid
        (let e : length (take lo xs ++ slice_range xs (suc lo) hi) ≡ hi - 1 =
        omega (arith, length-append (take lo xs) (slice_range xs (suc lo) hi), front_is, inner_is, order) in e)

-- ---- a pair that is put elsewhere

module _ (lists : List (List ℕ)) (pair : Pair) (once : IsOnce lists) (v lo hi : ℕ) (places : ArePairPlaces lists pair v lo hi) (order : lo < hi) where
  gap : IsGap lists pair v lo hi
  gap = pickup_first pair lists once v lo hi places order

  none_in_others : (x w k : ℕ) → IsSeat lists x v k → w < length lists → w ≢ v → times x (route lists w) ≡ 0
  none_in_others x w k seat low other =
      let few = few_times x lists (once x) in
      let one = at_least_one x (route lists v) k seat.place seat.found in
      let emptied = times_set x lists v [] seat.vehicle in
      let within : w < length (slice_set lists v []) = omega (arith, low, length-set lists v []) in
      let here = row_times pair x (slice_set lists v []) w within in
      let same : times x (route (slice_set lists v []) w) ≡ times x (route lists w) = ap (times x) (route_set_other lists v w [] other) in
      omega (arith, few, one, emptied, here, same)

  -- another list holds neither node
  pub others_stay : (w : ℕ) → w < length lists → w ≢ v → without_pair pair (route lists w) ≡ route lists w
  others_stay w low other = nothing_out pair (route lists w) (none_in_others pair.pickup w lo places.pickup_stands low other)
      (none_in_others pair.delivery w hi places.delivery_stands low other)

  -- the list of the pair has two fewer
  pub own_rest : (w : ℕ) → w ≡ v → length (without_pair pair (route lists w)) + 2 ≡ length (route lists w)
  own_rest w same = ap (λ u. length (without_pair pair (route lists u)) + 2) same ∙ ap (λ l. length l + 2) gap.list_without
      ∙ two_fewer (route lists v) lo hi order gap.place ∙ ap (λ u. length (route lists u)) (sym same)

  -- the lists after the pair is put into its own list, and into another
  pub moved_within : (w s t : ℕ) → w ≡ v → slice_set lists w (with_pair pair s t (without_two (route lists w) lo hi))
      ≡ slice_set (map (without_pair pair) lists) w (with_pair pair s t (route (map (without_pair pair) lists) w))
  moved_within w s t same =
      let rest : List ℕ = without_two (route lists v) lo hi in
      ap (λ u. slice_set lists u (with_pair pair s t (without_two (route lists u) lo hi))) same
      ∙ sym (ap (λ out. slice_set out w (with_pair pair s t (route out w))) gap.lists_without
      ∙ ap (λ u. slice_set (slice_set lists v rest) u (with_pair pair s t (route (slice_set lists v rest) u))) same
      ∙ ap (λ l. slice_set (slice_set lists v rest) v (with_pair pair s t l)) (route_set_same lists v rest gap.vehicle)
      ∙ set_twice lists v rest (with_pair pair s t rest))

  pub moved_between : (w s t : ℕ) → w ≢ v → slice_set (slice_set lists v (without_pair pair (route lists v))) w (with_pair pair s t (route lists w))
      ≡ slice_set (map (without_pair pair) lists) w (with_pair pair s t (route (map (without_pair pair) lists) w))
  moved_between w s t other =
      let rest : List ℕ = without_pair pair (route lists v) in
      sym (ap (λ out. slice_set out w (with_pair pair s t (route out w))) (pair_out pair lists once v lo hi places)
      ∙ ap (λ l. slice_set (slice_set lists v rest) w (with_pair pair s t l)) (route_set_other lists v w rest other))

  pub elsewhere_tells : (w s t : ℕ) → w < length lists → s ≤ t → t ≤ length (without_pair pair (route lists w))
      → is_elsewhere v lo hi w s t ≡ changes_the_list pair (route lists w) (without_pair pair (route lists w)) s t
  elsewhere_tells w s t low s_t t_low = ap not (sym (same_tests (is_same put (route lists w)) ((w == v) && ((s == lo) && (t == (hi - 1)))) to back))
    where
      rest : List ℕ
      rest = without_pair pair (route lists w)

      put : List ℕ
      put = with_pair pair s t (without_pair pair (route lists w))

      long : length (with_pair pair s t (without_pair pair (route lists w))) ≡ length (without_pair pair (route lists w)) + 2
      long = put_length pair (without_pair pair (route lists w)) s t s_t t_low

      to_same : w ≡ v → with_pair pair s t (without_pair pair (route lists w)) ≡ route lists w → IsTrue ((w == v) && ((s == lo) && (t == (hi - 1))))
      to_same same e =
          let row : length (route lists w) ≡ length (without_pair pair (route lists w)) + 2 = ap length (sym e) ∙ long in
          let p : IsSeat lists pair.pickup w s = record {
            vehicle = low;
            place = omega (arith, row, s_t, t_low);
            found = ap (λ l. slice_index l s) (sym e) ∙ pickup_at pair (without_pair pair (route lists w)) s t s_t t_low;
          } in
          let d : IsSeat lists pair.delivery w (suc t) = record {
            vehicle = low;
            place = omega (arith, row, t_low);
            found = ap (λ l. slice_index l (suc t)) (sym e) ∙ delivery_at pair (without_pair pair (route lists w)) s t s_t t_low;
          } in
          let at_s = (once pair.pickup w s v lo p places.pickup_stands).1 in
          let at_t = (once pair.delivery w (suc t) v hi d places.delivery_stands).1 in
          and_both (w == v) _ (test_of_eq w v same) (and_both (s == lo) _ (test_of_eq s lo at_s) (test_of_eq t (hi - 1) (omega (arith, at_t))))

      to : IsTrue (is_same (with_pair pair s t (without_pair pair (route lists w))) (route lists w)) → IsTrue ((w == v) && ((s == lo) && (t == (hi - 1))))
      to h =
          let e = same_of_test _ _ h in
          elim (eqb_tells w v) [
            | inl same ↦ to_same same.1 e
            | inr other ↦ absurd (
                let stays = ap length (others_stay w low other.1) in
                let shorter = ap length e in
                omega (arith, stays, shorter, long))
          ]

      back_at : (w s t : ℕ) → w ≡ v → s ≡ lo → t ≡ hi - 1 → with_pair pair s t (without_pair pair (route lists w)) ≡ route lists w
      back_at w s t e f g =
          ap (λ u. with_pair pair s t (without_pair pair (route lists u))) e
          ∙ ap (λ k. with_pair pair k t (without_pair pair (route lists v))) f
          ∙ ap (λ k. with_pair pair lo k (without_pair pair (route lists v))) g
          ∙ ap (with_pair pair lo (hi - 1)) gap.list_without
          ∙ put_back pair (route lists v) lo hi order gap.place places.pickup_stands.found places.delivery_stands.found
          ∙ ap (route lists) (sym e)

      back : IsTrue ((w == v) && ((s == lo) && (t == (hi - 1)))) → IsTrue (is_same (with_pair pair s t (without_pair pair (route lists w))) (route lists w))
      back h =
          let rest = and_right (w == v) _ h in
          let e = back_at w s t (eq_of_test w v (and_left (w == v) _ h))
          (eq_of_test s lo (and_left (s == lo) _ rest)) (eq_of_test t (hi - 1) (and_right (s == lo) _ rest)) in
          subst (λ l. IsTrue (is_same l (route lists w))) (sym e) (test_of_same (route lists w))

-- ---- the numbers of a pair that is put somewhere

pub may_put : (model : Model) (lists : List (List ℕ)) (p w n s t : ℕ) → p < length model.pairs
    → w < length lists → s ≤ t → t ≤ n → may_put_pair model lists p w n s t ≡ true
may_put model lists p w n s t low_p low order gap =
    and_both (nat_lt p (length model.pairs)) _ pair (and_both (is_vehicle lists w) _ vehicle (and_both (nat_le s t) _ first last))
  where
    pair : IsTrue (nat_lt p (length model.pairs))
    pair = Prim.grind arith

    vehicle : IsTrue (is_vehicle lists w)
    vehicle = Prim.grind arith

    first : IsTrue (nat_le s t)
    first = Prim.grind arith

    last : IsTrue (nat_le t n)
    last = Prim.grind arith
