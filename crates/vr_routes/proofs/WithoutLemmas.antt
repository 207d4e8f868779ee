-- Lists without the two nodes of a pair.
use Rattle.std.proofs.Common.{◌≡◌, ◌∙◌, ℕ, zero, suc, ◌+◌, ◌<◌, ◌≤◌, Bool, true, false, cond, not, ◌||◌, List, [], ◌∷◌, ◌++◌, length, map, take, drop}
use Rattle.std.proofs.Common.{drop-cons, refl, sym, ap, inl, inr, arith}
use Rattle.std.specs.Prelude.{◌==◌, filter, slice_index, slice_range, slice_set}
use Rattle.std.proofs.lemmas.Bool.Decides.{eqb_tells}
use Rattle.std.proofs.lemmas.List.{take-append-drop}
use Rattle.std.proofs.lemmas.List.Elements.{filter-append}
use Rattle.std.proofs.lemmas.List.Folds.{drop_split}
use Rattle.vr_model.specs.routes.Routes.{route}
use Rattle.vr_model.specs.moves.Moves.{without_pair}
use Rattle.vr_model.specs.declared.records.Pair.{Pair}
use Rattle.vr_routes.specs.Seats.{IsOnce}
use Rattle.vr_routes.specs.Pairs.{IsGap, ArePairPlaces, without_two}
use Rattle.vr_model.proofs.moves.Kept.{pickup_out, delivery_out}
use Rattle.vr_model.proofs.moves.Times.{times, times_in, hit, times_append, times_set, here_or_later, at_least_one}
use Rattle.vr_routes.proofs.OnceLemmas.{few_times}

-- the list in which two of its places stand out
pub split_at_two : (xs : List ℕ) (lo hi : ℕ) → lo < hi → hi < length xs
    → xs ≡ take lo xs ++ (slice_index xs lo ∷ (slice_range xs (suc lo) hi ++ (slice_index xs hi ∷ drop (suc hi) xs)))
split_at_two xs lo hi order low =
    sym (take-append-drop lo xs)
    ∙ ap (λ l. take lo xs ++ l) (drop-cons xs lo 0 (omega (arith, order, low)))
    ∙ ap (λ l. take lo xs ++ (slice_index xs lo ∷ l)) (drop_split xs (suc lo) hi order)
    ∙ ap (λ l. take lo xs ++ (slice_index xs lo ∷ (slice_range xs (suc lo) hi ++ l))) (drop-cons xs hi 0 low)

module _ (pair : Pair) where
  abbrev keeps : ℕ → Bool
  keeps node = not ((node == pair.pickup) || (node == pair.delivery))

  other_kept : (y : ℕ) → hit pair.pickup y ≡ 0 → hit pair.delivery y ≡ 0 → keeps y ≡ true
  other_kept y no_pickup no_delivery = elim (eqb_tells y pair.pickup) [
    | inl same ↦ absurd (let one : hit pair.pickup y ≡ 1 = ap (λ t. cond t 1 0) (ap (λ n. n == y) (sym same.1) ∙ itself y) in omega (arith, one, no_pickup))
    | inr other ↦ elim (eqb_tells y pair.delivery) [
      | inl same ↦
          absurd (let one : hit pair.delivery y ≡ 1 = ap (λ t. cond t 1 0) (ap (λ n. n == y) (sym same.1) ∙ itself y) in omega (arith, one, no_delivery))
      | inr too ↦ ap (λ t. not (t || (y == pair.delivery))) other.0 ∙ ap (λ t. not (false || t)) too.0
    ]
  ]
    where
      itself : (n : ℕ) → (n == n) ≡ true
      itself n = elim (eqb_tells n n) [
        | inl same ↦ same.0
        | inr other ↦ absurd (other.1 refl)
      ]

  -- a list without the pair stays as it is
  pub nothing_out : (xs : List ℕ) → times pair.pickup xs ≡ 0 → times pair.delivery xs ≡ 0 → without_pair pair xs ≡ xs
  nothing_out [] free bare = refl
  nothing_out (y ∷ ys) free bare =
      ap (λ t. cond t (y ∷ filter keeps ys) (filter keeps ys)) (other_kept y (omega (arith, free)) (omega (arith, bare)))
      ∙ ap (λ l. y ∷ l) (nothing_out ys (omega (arith, free)) (omega (arith, bare)))

  pub nothing_out_of : (lists : List (List ℕ)) → times_in pair.pickup lists ≡ 0 → times_in pair.delivery lists ≡ 0 → map (without_pair pair) lists ≡ lists
  nothing_out_of [] free bare = refl
  nothing_out_of (l ∷ ls) free bare =
      ap (λ k. k ∷ map (without_pair pair) ls) (nothing_out l (omega (arith, free)) (omega (arith, bare)))
      ∙ ap (λ r. l ∷ r) (nothing_out_of ls (omega (arith, free)) (omega (arith, bare)))

  one_out : (y : ℕ) (ys : List ℕ) → keeps y ≡ false → without_pair pair (y ∷ ys) ≡ without_pair pair ys
  one_out y ys out = ap (λ t. cond t (y ∷ filter keeps ys) (filter keeps ys)) out

  -- two places that hold the nodes of the pair
  pub two_out : (xs : List ℕ) (lo hi : ℕ) → lo < hi → hi < length xs → keeps (slice_index xs lo) ≡ false → keeps (slice_index xs hi) ≡ false
      → 1 ≤ hit pair.pickup (slice_index xs lo) + hit pair.pickup (slice_index xs hi)
      → 1 ≤ hit pair.delivery (slice_index xs lo) + hit pair.delivery (slice_index xs hi)
      → times pair.pickup xs ≤ 1 → times pair.delivery xs ≤ 1 → without_pair pair xs ≡ without_two xs lo hi
  two_out xs lo hi order low out_lo out_hi one_p one_d few_p few_d =
      let front : List ℕ = take lo xs in
      let mid : List ℕ = slice_range xs (suc lo) hi in
      let back : List ℕ = drop (suc hi) xs in
      let x : ℕ = slice_index xs lo in
      let y : ℕ = slice_index xs hi in
      let split = split_at_two xs lo hi order low in
      let p : times pair.pickup xs
      ≡ times pair.pickup front + (hit pair.pickup x + (times pair.pickup mid + (hit pair.pickup y + times pair.pickup back))) = count pair.pickup in
      let d : times pair.delivery xs
      ≡ times pair.delivery front + (hit pair.delivery x + (times pair.delivery mid + (hit pair.delivery y + times pair.delivery back))) =
      count pair.delivery in
      ap (without_pair pair) split ∙ filter-append keeps front (x ∷ (mid ++ (y ∷ back)))
      ∙ ap (λ l. l ++ without_pair pair (x ∷ (mid ++ (y ∷ back)))) (nothing_out front (omega (arith, p, one_p, few_p)) (omega (arith, d, one_d, few_d)))
      ∙ ap (λ l. front ++ l) (one_out x (mid ++ (y ∷ back)) out_lo ∙ filter-append keeps mid (y ∷ back)
      ∙ ap (λ l. l ++ without_pair pair (y ∷ back)) (nothing_out mid (omega (arith, p, one_p, few_p)) (omega (arith, d, one_d, few_d)))
      ∙ ap (λ l. mid ++ l) (one_out y back out_hi ∙ nothing_out back (omega (arith, p, one_p, few_p)) (omega (arith, d, one_d, few_d))))
    where
      count : (z : ℕ) → times z xs ≡ times z (take lo xs)
          + (hit z (slice_index xs lo) + (times z (slice_range xs (suc lo) hi) + (hit z (slice_index xs hi) + times z (drop (suc hi) xs))))
      count z =
          let e : times z xs ≡ times z (take lo xs ++ (slice_index xs lo ∷ (slice_range xs (suc lo) hi ++ (slice_index xs hi ∷ drop (suc hi) xs)))) =
          ap (times z) (split_at_two xs lo hi order low) in
          let a = times_append z (take lo xs) (slice_index xs lo ∷ (slice_range xs (suc lo) hi ++ (slice_index xs hi ∷ drop (suc hi) xs))) in
          let b = times_append z (slice_range xs (suc lo) hi) (slice_index xs hi ∷ drop (suc hi) xs) in
          omega (arith, e, a, b)

  pub row_times : (x : ℕ) (lists : List (List ℕ)) (v : ℕ) → v < length lists → times x (route lists v) ≤ times_in x lists
  row_times x lists v low = let whole = times_set x lists v [] low in omega (arith, whole)

  -- all that stands of the pair stands in one list
  pub one_list_changes : (lists : List (List ℕ)) (v : ℕ) → v < length lists
      → times_in pair.pickup lists ≤ times pair.pickup (route lists v) → times_in pair.delivery lists ≤ times pair.delivery (route lists v)
      → map (without_pair pair) lists ≡ slice_set lists v (without_pair pair (route lists v))
  one_list_changes [] v low p d = absurd (omega (arith, low))
  one_list_changes (l ∷ ls) zero low p d = ap (λ r. without_pair pair l ∷ r) (nothing_out_of ls (omega (arith, p)) (omega (arith, d)))
  one_list_changes (l ∷ ls) (suc v) low p d =
      let within : v < length ls = omega (arith, low) in
      let rp = row_times pair.pickup ls v within in
      let rd = row_times pair.delivery ls v within in
      ap (λ k. k ∷ map (without_pair pair) ls) (nothing_out l (omega (arith, p, rp)) (omega (arith, d, rd)))
      ∙ ap (λ r. l ∷ r) (one_list_changes ls v within (omega (arith, p)) (omega (arith, d)))

  one_of : (x y : ℕ) → y ≡ x → 1 ≤ hit x y
  one_of x y e = elim (here_or_later x y) [
    | inl same ↦ (let one = same.1 in omega (arith, one))
    | inr other ↦ absurd (elim (eqb_tells x y) [
      | inl same ↦ (let one : hit x y ≡ 1 = ap (λ t. cond t 1 0) same.0 in omega (arith, one, other))
      | inr differ ↦ differ.1 (sym e)
    ])
  ]

  module _ (lists : List (List ℕ)) (once : IsOnce lists) (v k j : ℕ) (places : ArePairPlaces lists pair v k j) where
    low : v < length lists
    low = places.pickup_stands.vehicle

    abbrev row : List ℕ
    row = route lists v

    few_p : times_in pair.pickup lists ≤ 1
    few_p = few_times pair.pickup lists (once pair.pickup)

    few_d : times_in pair.delivery lists ≤ 1
    few_d = few_times pair.delivery lists (once pair.delivery)

    pickup_out_of : keeps (slice_index row k) ≡ false
    pickup_out_of = ap keeps places.pickup_stands.found ∙ pickup_out pair

    delivery_out_of : keeps (slice_index row j) ≡ false
    delivery_out_of = ap keeps places.delivery_stands.found ∙ delivery_out pair

    pickup_hit : 1 ≤ hit pair.pickup (slice_index row k)
    pickup_hit = one_of pair.pickup (slice_index row k) places.pickup_stands.found

    delivery_hit : 1 ≤ hit pair.delivery (slice_index row j)
    delivery_hit = one_of pair.delivery (slice_index row j) places.delivery_stands.found

    gap_of : (lo hi : ℕ) → lo < hi → hi < length row → keeps (slice_index row lo) ≡ false → keeps (slice_index row hi) ≡ false
        → 1 ≤ hit pair.pickup (slice_index row lo) + hit pair.pickup (slice_index row hi)
        → 1 ≤ hit pair.delivery (slice_index row lo) + hit pair.delivery (slice_index row hi)
        → IsGap lists pair v lo hi
    gap_of lo hi order within out_lo out_hi one_p one_d =
        let all_p = row_times pair.pickup lists v low in
        let all_d = row_times pair.delivery lists v low in
        let here_p = at_least_one pair.pickup row k places.pickup_stands.place places.pickup_stands.found in
        let here_d = at_least_one pair.delivery row j places.delivery_stands.place places.delivery_stands.found in
        let list = two_out row lo hi order within out_lo out_hi one_p one_d (omega (arith, few_p, all_p)) (omega (arith, few_d, all_d)) in
        record {
          vehicle = low;
          order = order;
          place = within;
          list_without = list;
          lists_without = one_list_changes lists v low (omega (arith, few_p, here_p)) (omega (arith, few_d, here_d)) ∙ ap (slice_set lists v) list;
        }

    -- the lists without the pair
    pub pair_out : map (without_pair pair) lists ≡ slice_set lists v (without_pair pair row)
    pair_out =
        let here_p = at_least_one pair.pickup row k places.pickup_stands.place places.pickup_stands.found in
        let here_d = at_least_one pair.delivery row j places.delivery_stands.place places.delivery_stands.found in
        one_list_changes lists v low (omega (arith, few_p, here_p)) (omega (arith, few_d, here_d))

    pub pickup_first : k < j → IsGap lists pair v k j
    pickup_first order = gap_of k j order places.delivery_stands.place pickup_out_of delivery_out_of (omega (arith, pickup_hit)) (omega (arith, delivery_hit))

    pub delivery_first : j < k → IsGap lists pair v j k
    delivery_first order = gap_of j k order places.pickup_stands.place delivery_out_of pickup_out_of (omega (arith, pickup_hit)) (omega (arith, delivery_hit))
