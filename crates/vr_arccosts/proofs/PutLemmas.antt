-- What a visit or a pair that is put into a list adds, by the gaps that it takes.
use Rattle.std.proofs.Common.{◌≡◌, ◌≢◌, ◌∙◌, ℕ, suc, ◌+◌, ◌-◌, ◌<◌, ◌≤◌, false, List, [], ◌∷◌, ◌++◌, length, take, drop, refl, sym, ap, ap₂, arith, add-one}
use Rattle.std.proofs.Common.{append_assoc, append-nil}
use Rattle.std.specs.Prelude.{ℤ, pos, ◌+ℤ◌, ◌≤ℤ◌, slice_range, slice_index_or, insert}
use Rattle.std.proofs.lemmas.Int.{ints}
use Rattle.vr_model.specs.moves.Moves.{apply, with_pair, with_route}
use Rattle.vr_model.specs.tables.Tables.{arc_cost, pair_at, vehicle_at}
use Rattle.vr_model.specs.routes.Routes.{route, route_cost}
use Rattle.vr_model.specs.declared.records.Model.{Model}
use Rattle.vr_model.specs.declared.records.Pair.{Pair}
use Rattle.vr_model.specs.declared.neighbours.Move.TheVariants.{MakeActive, PairActive, RelocatePair}
use Rattle.vr_model.proofs.routes.Lists.{route_set_other}
use Rattle.vr_balance.specs.Sums.{last_of}
use Rattle.vr_balance.proofs.Paths.{last-append, path-append}
use Rattle.vr_routes.specs.Pairs.{without_two, ArePairPlaces}
use Rattle.vr_routes.specs.Seats.{IsOnce}
use Rattle.vr_routes.proofs.FactLemmas.{of_make_active, of_pair_active, of_relocate_pair}
use Rattle.vr_routes.proofs.WithoutLemmas.{pickup_first}
use Rattle.vr_arccosts.specs.ArcMoves.{costs_more, with_between}
use Rattle.vr_arccosts.specs.Runs.{AddsNoLess, at_place, before_place, gap_added, pair_added}
use Rattle.vr_arccosts.proofs.ChainLemmas.{path-first}
use Rattle.vr_arccosts.proofs.MoveLemmas.{one-list, two-lists}
use Rattle.vr_arccosts.proofs.PathLemmas.{cost-between, first-left, last-kept}
use Rattle.vr_arccosts.proofs.PieceLemmas.{chain-first, chain-last, chain-length}
use Rattle.vr_arccosts.proofs.RunLemmas.{between-used, chain-sum, gap-adds, gap-old, stretch-sum}

module _ (model : Model) (v : ℕ) (list : List ℕ) (pair : Pair) where
  abbrev cost : ℕ → ℕ → ℤ
  cost = arc_cost model v

  -- a pair that is put in side by side
  pub pair-together : (s : ℕ) → s ≤ length list
      → gap_added model v list pair.pickup pair.delivery s +ℤ cost pair.pickup pair.delivery ≡ pair_added model v list pair s s
  pair-together s low =
      let nodes : List ℕ = pair.pickup ∷ (pair.delivery ∷ []) in
      let none : s - s ≡ 0 = omega arith in
      let same : with_pair pair s s list ≡ with_between list s s nodes =
      ap (λ n. take s list ++ (pair.pickup ∷ (take n (drop s list) ++ (pair.delivery ∷ drop s list)))) none in
      let is = ap (route_cost model v) same in
      let change = cost-between model v list nodes s s (omega arith) low in
      let used = between-used model v list s s nodes (omega arith) in
      omega (arith, ints, is, change, used)

  -- a pair that is put in with nodes between
  pub pair-apart : (s t : ℕ) → s < t → t ≤ length list
      → gap_added model v list pair.pickup pair.pickup s +ℤ gap_added model v list pair.delivery pair.delivery t ≡ pair_added model v list pair s t
  pair-apart s t order low =
      let x = pair.pickup in
      let y = pair.delivery in
      let mid : List ℕ = slice_range list s t in
      let nodes : List ℕ = x ∷ (mid ++ (y ∷ [])) in
      let from = before_place model v list s in
      let to = at_place model v list t in
      let up : s ≤ t = omega (arith, order) in
      let same : with_between list s t nodes ≡ with_pair pair s t list = ap (λ l. take s list ++ (x ∷ l)) (append_assoc mid (y ∷ []) (drop t list)) in
      let is = ap (route_cost model v) same in
      let change = cost-between model v list nodes s t up low in
      let used = between-used model v list s t nodes (omega arith) in
      let long = chain-length list s t order low false in
      let path = path-append cost x mid (y ∷ []) in
      let first = path-first cost x mid (omega (arith, long, order)) in
      let first-is : cost x (slice_index_or mid 0 0) ≡ cost x (slice_index_or list s 0) = ap (cost x) (chain-first list s t order low false) in
      let last-is : cost (last_of x mid) y ≡ cost (slice_index_or list (t - 1) 0) y = ap (λ n. cost n y) (chain-last list s t order low false x) in
      let ends-is : cost (last_of x (mid ++ (y ∷ []))) to ≡ cost y to = ap (λ n. cost n to) (last-append x mid (y ∷ [])) in
      let chain = chain-sum model v list s t order low in
      let old = stretch-sum model v list s t order low in
      let gap = gap-old model v list s (omega (arith, order, low)) (omega (arith, order, low)) in
      let other = gap-old model v list t low (omega (arith, order, low)) in
      let next = first-left (vehicle_at model v).end list s (omega (arith, order, low)) in
      let here : cost from (at_place model v list s) ≡ cost from (slice_index_or list s 0) = ap (cost from) next in
      let on : cost x (at_place model v list s) ≡ cost x (slice_index_or list s 0) = ap (cost x) next in
      let front = last-kept (vehicle_at model v).start list t (omega (arith, order)) low in
      let into : cost (before_place model v list t) y ≡ cost (slice_index_or list (t - 1) 0) y = ap (λ n. cost n y) front in
      let closes : cost (before_place model v list t) to ≡ cost (slice_index_or list (t - 1) 0) to = ap (λ n. cost n to) front in
      omega (arith, ints, is, change, used, path, first, first-is, last-is, ends-is, chain, old, gap, other, here, on, into, closes)

module _ (model : Model) (lists : List (List ℕ)) where
  -- a visit that is put into a list
  pub active-no-less : (u w t : ℕ) (bound : ℤ) → bound ≤ℤ (pos 0 +ℤ gap_added model w (route lists w) u u t) → AddsNoLess model lists (MakeActive u w t) bound
  active-no-less u w t bound low one =
      let facts = of_make_active model lists u w t one in
      let gap = gap-adds model lists w t u facts.gap in
      let is = one-list model lists (MakeActive u w t) w (insert (route lists w) t u) facts.vehicle refl in
      omega (arith, ints, low, gap, is)

  -- a pair that is put into a list
  pub pair-no-less : (p w s t : ℕ) (bound : ℤ) → bound ≤ℤ (pos 0 +ℤ pair_added model w (route lists w) (pair_at model p) s t)
      → AddsNoLess model lists (PairActive p w s t) bound
  pair-no-less p w s t bound low one =
      let facts = of_pair_active model lists p w s t one in
      let is = one-list model lists (PairActive p w s t) w (with_pair (pair_at model p) s t (route lists w)) facts.vehicle refl in
      omega (arith, ints, low, is)

  -- a served pair that is put into the list of another vehicle
  pub elsewhere-no-less : (p w s t v lo hi : ℕ) (bound base : ℤ) → IsOnce lists → ArePairPlaces lists (pair_at model p) v lo hi → lo < hi → v ≢ w
      → base ≡ costs_more model lists v (without_two (route lists v) lo hi) → bound ≤ℤ (base +ℤ pair_added model w (route lists w) (pair_at model p) s t)
      → AddsNoLess model lists (RelocatePair p w s t) bound
  elsewhere-no-less p w s t v lo hi bound base once places order apart is low one =
      let pair = pair_at model p in
      let gap = pickup_first pair lists once v lo hi places order in
      let facts = of_relocate_pair model lists p w s t one in
      let out : List ℕ = without_two (route lists v) lo hi in
      let list : List ℕ = with_pair pair s t (route lists w) in
      let first : List (List ℕ) = with_route lists v out in
      let kept : route first w ≡ route lists w = route_set_other lists v w out (λ e. apart (sym e)) in
      let after : with_route first w list ≡ apply model lists (RelocatePair p w s t) =
      sym (ap (λ rest. with_route rest w (with_pair pair s t (route rest w))) gap.lists_without ∙ ap (λ l. with_route first w (with_pair pair s t l)) kept) in
      let both = two-lists model lists (RelocatePair p w s t) v w out list gap.vehicle facts.vehicle apart after in
      omega (arith, ints, is, low, both)

-- the list of a vehicle without a pair
pub without-pair-list : (list : List ℕ) (lo hi : ℕ) → with_between list lo (hi + 1) (slice_range list (lo + 1) hi ++ []) ≡ without_two list lo hi
without-pair-list list lo hi =
    ap (λ l. take lo list ++ (l ++ drop (hi + 1) list)) (append-nil (slice_range list (lo + 1) hi))
    ∙ (ap (λ n. take lo list ++ (slice_range list n hi ++ drop (hi + 1) list)) (add-one lo)
    ∙ ap (λ n. take lo list ++ (slice_range list (suc lo) hi ++ drop n list)) (add-one hi))

-- what a pair adds that is put in, by the numbers that code has
pub put-told : (model : Model) (w : ℕ) (list : List ℕ) (s t : ℕ) (pair : Pair) (m : Model) (n : ℕ) (l : List ℕ) (q : Pair)
    → m ≡ model → n ≡ w → l ≡ list → q ≡ pair
    → pair_added m n l q s t ≡ pair_added model w list pair s t
put-told model w list s t pair m n l q of-model of-vehicle of-list of-pair =
    ap (λ (m : Model). pair_added m n l q s t) of-model
    ∙ (ap₂ (λ n l. pair_added model n l q s t) of-vehicle of-list ∙ ap (λ (q : Pair). pair_added model w list q s t) of-pair)
