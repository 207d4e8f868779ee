-- The list of a vehicle without a pair: its nodes, and what moves add that put the pair back.
use Rattle.std.proofs.Common.{◌≡◌, ◌≢◌, ◌∙◌, ℕ, suc, ◌+◌, ◌-◌, ◌<◌, ◌≤◌, List, ◌++◌, length, take, drop, sym, ap, ap₂, inl, inr, arith, length-set}
use Rattle.std.specs.Prelude.{ℤ, pos, ◌+ℤ◌, ◌≤ℤ◌, slice_range, slice_index_or}
use Rattle.std.proofs.lemmas.Bool.{cases_lt}
use Rattle.std.proofs.lemmas.Int.{ints}
use Rattle.std.proofs.Math.Seq.{get_or-append_right}
use Rattle.std.proofs.lemmas.List.{get_or-drop, get_or-take, get_or_append_left, length-take-le}
use Rattle.std.proofs.lemmas.List.Edits.{get_or-between, length-between}
use Rattle.vr_model.specs.moves.Moves.{apply, with_pair, with_route}
use Rattle.vr_model.specs.routes.Costs.{arcs_part}
use Rattle.vr_model.specs.routes.Routes.{route, route_cost}
use Rattle.vr_model.specs.tables.Tables.{arc_cost, pair_at}
use Rattle.vr_model.specs.declared.records.Model.{Model}
use Rattle.vr_model.specs.declared.records.Pair.{Pair}
use Rattle.vr_model.specs.declared.neighbours.Move.TheVariants.{RelocatePair}
use Rattle.vr_model.proofs.routes.Lists.{route_set_same}
use Rattle.vr_routes.specs.Pairs.{without_two, ArePairPlaces}
use Rattle.vr_routes.specs.Seats.{IsOnce}
use Rattle.vr_routes.proofs.RestLemmas.{two_fewer}
use Rattle.vr_routes.proofs.WithoutLemmas.{pickup_first}
use Rattle.vr_balance.specs.Sums.{last_of}
use Rattle.vr_parts.proofs.SumLemmas.{over-set}
use Rattle.vr_arccosts.specs.Along.{between_cost}
use Rattle.vr_arccosts.specs.ArcMoves.{costs_more}
use Rattle.vr_arccosts.specs.Chains.{first_node_or}
use Rattle.vr_arccosts.specs.Runs.{AddsNoLess, at_place, before_place, gap_added, pair_added, place_among_all, IsRest}
use Rattle.vr_arccosts.proofs.PathLemmas.{first-left, last-kept, stretch-unused}
use Rattle.vr_arccosts.proofs.PutLemmas.{pair-apart, pair-together}
use Rattle.vr_arccosts.proofs.RunLemmas.{gap-old}

-- a place in front of both, one between them, and one behind
place-front : (place lo hi : ℕ) → place < lo → place_among_all place lo hi ≡ place
place-front place lo hi low = Prim.grind arith

place-between : (place lo hi : ℕ) → lo ≤ place → place + 1 < hi → place_among_all place lo hi ≡ place + 1
place-between place lo hi high low = Prim.grind arith

place-behind : (place lo hi : ℕ) → lo ≤ place → hi ≤ place + 1 → place_among_all place lo hi ≡ place + 2
place-behind place lo hi high past = Prim.grind arith

module _ (list : List ℕ) (lo hi : ℕ) (order : lo < hi) (low : hi < length list) where
  abbrev mid : List ℕ
  mid = slice_range list (suc lo) hi

  front-long : length (take lo list) ≡ lo
  front-long = length-take-le lo list (omega (arith, order, low))

  mid-long : length mid ≡ hi - suc lo
  mid-long = length-between list (suc lo) hi (omega (arith, low))

  -- a node of the rest
  pub rest-at : (k : ℕ) → slice_index_or (without_two list lo hi) k 0 ≡ slice_index_or list (place_among_all k lo hi) 0
  rest-at k = elim (cases_lt k lo) [
    | inl front ↦ get_or_append_left (take lo list) (mid ++ drop (suc hi) list) 0 k (omega (arith, front, front-long))
        ∙ (get_or-take lo list k 0 front ∙ ap (λ n. slice_index_or list n 0) (sym (place-front k lo hi front)))
    | inr past ↦ (
        let skip : slice_index_or (without_two list lo hi) k 0 ≡ slice_index_or (mid ++ drop (suc hi) list) (k - lo) 0 =
        get_or-append_right (take lo list) (mid ++ drop (suc hi) list) k 0 (omega (arith, past, front-long))
        ∙ ap (λ n. slice_index_or (mid ++ drop (suc hi) list) (k - n) 0) front-long in
        elim (cases_lt (k + 1) hi) [
          | inl between ↦ (
              let here : suc lo + (k - lo) ≡ k + 1 = omega (arith, past) in
              skip ∙ (get_or_append_left mid (drop (suc hi) list) 0 (k - lo) (omega (arith, past, between, mid-long))
              ∙ (get_or-between list (suc lo) hi (k - lo) 0 (omega (arith, past, between))
              ∙ (ap (λ n. slice_index_or list n 0) here ∙ ap (λ n. slice_index_or list n 0) (sym (place-between k lo hi past between))))))
          | inr behind ↦ (
              let here : suc hi + (k - lo - length mid) ≡ k + 2 = omega (arith, past, behind, order, mid-long) in
              skip ∙ (get_or-append_right mid (drop (suc hi) list) (k - lo) 0 (omega (arith, past, behind, order, mid-long))
              ∙ (get_or-drop (suc hi) list (k - lo - length mid) 0
              ∙ (ap (λ n. slice_index_or list n 0) here ∙ ap (λ n. slice_index_or list n 0) (sym (place-behind k lo hi past behind))))))
        ])
  ]

  -- it is one of the list
  pub rest-inside : (k : ℕ) → k + 2 < length list → place_among_all k lo hi < length list
  rest-inside k small = elim (cases_lt k lo) [
    | inl front ↦ (let is = place-front k lo hi front in omega (arith, is, small))
    | inr past ↦ elim (cases_lt (k + 1) hi) [
      | inl between ↦ (let is = place-between k lo hi past between in omega (arith, is, small))
      | inr behind ↦ (let is = place-behind k lo hi past behind in omega (arith, is, small))
    ]
  ]

-- ---- what stands beside a place of the rest

module _ {model : Model} {list : List ℕ} {lo hi : ℕ} (sound : IsRest model list lo hi) where
  abbrev rest : List ℕ
  rest = without_two list lo hi

  fewer : length rest + 2 ≡ length list
  fewer = two_fewer list lo hi sound.order sound.place

  pub rest-next : (end k : ℕ) {node : ℕ} → k + 2 ≤ length list → k + 2 ≢ length list → node ≡ slice_index_or rest k 0 → node ≡ first_node_or (drop k rest) end
  rest-next end k low other is = is ∙ sym (first-left end rest k (omega (arith, low, other, fewer)))

  pub rest-before : (start k : ℕ) {node : ℕ} → k ≢ 0 → k + 2 ≤ length list → node ≡ slice_index_or rest (k - 1) 0 → node ≡ last_of start (take k rest)
  rest-before start k some low is = is ∙ sym (last-kept start rest k (omega (arith, some)) (omega (arith, low, fewer)))

  module _ (v t : ℕ) (low : t + 2 ≤ length list) where
    -- what is there now, where the rest has no node and where it has some
    pub rest-empty : length list ≡ 2 → pos 0 ≡ between_cost model v rest t t (slice_range rest t t)
    rest-empty two = sym (stretch-unused model v rest t t (omega arith) (omega (arith, fewer, two)))

    pub rest-old : {before next : ℕ} {old : ℤ} → length list ≢ 2 → before ≡ before_place model v rest t
        → next ≡ at_place model v rest t → old ≡ arc_cost model v before next
        → old ≡ between_cost model v rest t t (slice_range rest t t)
    rest-old other before-is next-is is = is ∙ ap₂ (arc_cost model v) before-is next-is
        ∙ sym (gap-old model v rest t (omega (arith, low, fewer)) (omega (arith, low, other, fewer)))

    -- a pair whose delivery is put before the place, side by side with its pickup or behind it
    pub rest-together : (pair : Pair) (s : ℕ) → s ≡ t
        → gap_added model v rest pair.pickup pair.delivery s +ℤ arc_cost model v pair.pickup pair.delivery ≡ pair_added model v rest pair s t
    rest-together pair s same = pair-together model v rest pair s (omega (arith, low, same, fewer)) ∙ ap (pair_added model v rest pair s) same

    pub rest-apart : (pair : Pair) (s : ℕ) → s < t
        → gap_added model v rest pair.pickup pair.pickup s +ℤ gap_added model v rest pair.delivery pair.delivery t ≡ pair_added model v rest pair s t
    rest-apart pair s order = pair-apart model v rest pair s t order (omega (arith, low, fewer))

module _ (model : Model) (lists : List (List ℕ)) where
  -- a served pair that is put back into its list
  pub back-no-less : (p s t v lo hi : ℕ) (bound base : ℤ) → IsOnce lists → ArePairPlaces lists (pair_at model p) v lo hi → lo < hi
      → base ≡ costs_more model lists v (without_two (route lists v) lo hi)
      → bound ≤ℤ (base +ℤ pair_added model v (without_two (route lists v) lo hi) (pair_at model p) s t)
      → AddsNoLess model lists (RelocatePair p v s t) bound
  back-no-less p s t v lo hi bound base once places order is low one =
      let pair = pair_at model p in
      let gap = pickup_first pair lists once v lo hi places order in
      let out : List ℕ = without_two (route lists v) lo hi in
      let list : List ℕ = with_pair pair s t out in
      let first : List (List ℕ) = with_route lists v out in
      let here : route first v ≡ out = route_set_same lists v out gap.vehicle in
      let after : with_route first v list ≡ apply model lists (RelocatePair p v s t) =
      sym (ap (λ rest. with_route rest v (with_pair pair s t (route rest v))) gap.lists_without ∙ ap (λ l. with_route first v (with_pair pair s t l)) here) in
      let without = over-set (route_cost model) lists v out gap.vehicle in
      let many = length-set lists v out in
      let known = gap.vehicle in
      let put = over-set (route_cost model) first v list (omega (arith, many, known)) in
      let kept = ap (route_cost model v) here in
      let whole = ap (arcs_part model) after in
      omega (arith, ints, is, low, without, put, kept, whole)
