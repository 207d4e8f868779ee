-- The moves of given lists are those that pass the test.
use Rattle.std.proofs.Common.{◌≡◌, ℕ, suc, ◌-◌, ◌<◌, ◌≤◌, Bool, true, false, cond, not, ◌&&◌, List, length, map, refl, sym, subst, inl, inr, arith}
use Rattle.std.specs.List.{Contains}
use Rattle.std.specs.Prelude.{IsTrue, ◌==◌, nat_lt, nat_le, filter}
use Rattle.vr_model.specs.tables.Numbers.{below, from_to, each}
use Rattle.vr_model.specs.tables.Tables.{pair_at, is_visit, visits}
use Rattle.vr_model.specs.routes.Routes.{route, vehicles, is_active, inactive}
use Rattle.vr_model.specs.moves.Moves.{places, gaps, pairs, places_behind, without_pair, is_pair_served, is_pair_together, is_pair_inactive, has_chain}
use Rattle.vr_model.specs.moves.Moves.{is_other, has_some_front, changes_the_list, moves_in, moves_over, all_neighbourhoods}
use Rattle.vr_model.specs.moves.MoveTests.{is_vehicle, is_place, is_gap, is_inactive, may_put_pair, is_move, MovesAsTested}
use Rattle.vr_model.specs.deciding.Testing.{and_left, and_right, and_both}
use Rattle.vr_model.specs.declared.records.Model.{Model}
use Rattle.vr_model.specs.declared.neighbours.Move.{Move}
use Rattle.vr_model.specs.declared.neighbours.Move.TheVariants.{TwoOpt, OrOpt, Relocate, Exchange, Cross, RelocatePair, PairActive, PairInactive, MakeActive}
use Rattle.vr_model.specs.declared.neighbours.Move.TheVariants.{MakeInactive, SwapActive}
use Rattle.vr_model.specs.declared.neighbours.Neighbourhood.{Neighbourhood}
use Rattle.vr_model.specs.declared.neighbours.Neighbourhood.TheVariants as all
use Rattle.vr_model.proofs.tables.Members.{In, of_contains, to_contains, from_each, to_each, from_map, to_map, of_filter, to_filter, of_below, to_below}
use Rattle.vr_model.proofs.tables.Members.{of_from_to, to_from_to}

module _ (model : Model) (lists : List (List ℕ)) where
  -- each move of a neighbourhood passes the test
  abbrev Passes : Neighbourhood → Type 0
  Passes neighbourhood = (mv : Move) → In (moves_in model lists neighbourhood) mv → IsTrue (is_move model lists mv)

  -- a move that passes the test is one of a neighbourhood
  abbrev IsOne : Neighbourhood → Move → Type 0
  IsOne neighbourhood mv = IsTrue (is_move model lists mv) → In (moves_in model lists neighbourhood) mv

  -- the test of a move that is the one of these numbers
  moved : (mv other : Move) → mv ≡ other → IsTrue (is_move model lists other) → IsTrue (is_move model lists mv)
  moved mv other e h = subst (λ m. IsTrue (is_move model lists m)) (sym e) h

  -- the tests of places and of pairs, and their numbers
  test_of_lt : (m n : ℕ) → m < n → IsTrue (nat_lt m n)
  test_of_lt m n h = Prim.grind arith

  lt_of_test : (m n : ℕ) → IsTrue (nat_lt m n) → m < n
  lt_of_test m n h = Prim.grind arith

  place_test : (v a : ℕ) → v < length lists → a < length (route lists v) → IsTrue (is_vehicle lists v && is_place lists v a)
  place_test v a hv ha = Prim.grind arith

  pair_test : (p w n s t : ℕ) → p < length model.pairs → w < length lists → s ≤ t → t < suc n → IsTrue (may_put_pair model lists p w n s t)
  pair_test p w n s t hp hw low high = Prim.grind arith

  pair_numbers : (p w n s t : ℕ) → IsTrue (may_put_pair model lists p w n s t) → (p < length model.pairs) × (w < length lists) × (s ≤ t) × (t < suc n)
  pair_numbers p w n s t h = (Prim.grind arith, Prim.grind arith, Prim.grind arith, Prim.grind arith)

  -- the list of w without the nodes of pair p
  abbrev rest : ℕ → ℕ → List ℕ
  rest p w = without_pair (pair_at model p) (route lists w)

  abbrev changes : ℕ → ℕ → ℕ → ℕ → Bool
  changes p w s t = changes_the_list (pair_at model p) (route lists w) (rest p w) s t

  -- ---- within one list

  passes_two_opt : Passes all.TwoOpt
  passes_two_opt mv h =
      from_each _ (vehicles lists) mv h λ v hv h2. from_each _ (places (route lists v)) mv h2 λ a ha h3.
      from_map (TwoOpt v a) (from_to (suc a) (length (route lists v))) mv h3 λ b hb e.
      let range = of_from_to (suc a) (length (route lists v)) b hb in
      moved mv (TwoOpt v a b) e (numbers v a b (of_below _ v hv) range.0 range.1)
    where
      numbers : (v a b : ℕ) → v < length lists → suc a ≤ b → b < length (route lists v) → IsTrue (is_move model lists (TwoOpt v a b))
      numbers v a b hv low high = Prim.grind arith

  one_two_opt : (v a b : ℕ) → IsOne all.TwoOpt (TwoOpt v a b)
  one_two_opt v a b h =
      let hv : v < length lists = Prim.grind arith in
      let low : suc a ≤ b = Prim.grind arith in
      let high : b < length (route lists v) = Prim.grind arith in
      to_each _ (vehicles lists) v _ (to_below _ _ hv) (to_each _ (places (route lists v)) a _ (to_below _ _ (omega (arith, low, high)))
      (to_map (TwoOpt v a) (from_to (suc a) (length (route lists v))) b (to_from_to _ _ _ low high)))

  abbrev chains_of : ℕ → ℕ → ℕ → List Move
  chains_of v a k = map (OrOpt v a k) (filter (is_other a) (below (suc (length (route lists v) - k))))

  passes_or_opt : Passes all.OrOpt
  passes_or_opt mv h =
      from_each _ (vehicles lists) mv h λ v hv h2. from_each _ (places (route lists v)) mv h2 λ a ha h3.
      from_each (chains_of v a) (filter (has_chain (route lists v) a) (from_to 1 4)) mv h3 λ k hk h4.
      from_map (OrOpt v a k) (filter (is_other a) (below (suc (length (route lists v) - k)))) mv h4 λ t ht e.
      let k_there = of_filter (has_chain (route lists v) a) (from_to 1 4) k hk in
      let range = of_from_to 1 4 k k_there.0 in
      let t_there = of_filter (is_other a) (below (suc (length (route lists v) - k))) t ht in
      moved mv (OrOpt v a k t) e (numbers v a k t (of_below _ v hv) range.0 range.1 k_there.1 (of_below _ t t_there.0) t_there.1)
    where
      numbers : (v a k t : ℕ) → v < length lists → 1 ≤ k → k < 4 → IsTrue (has_chain (route lists v) a k)
          → t < suc (length (route lists v) - k) → IsTrue (is_other a t) → IsTrue (is_move model lists (OrOpt v a k t))
      numbers v a k t hv low high within_list ht other = Prim.grind arith

  one_or_opt : (v a k t : ℕ) → IsOne all.OrOpt (OrOpt v a k t)
  one_or_opt v a k t h =
      let hv : v < length lists = Prim.grind arith in
      let low : 1 ≤ k = Prim.grind arith in
      let high : k < 4 = Prim.grind arith in
      let within_list : IsTrue (has_chain (route lists v) a k) = Prim.grind arith in
      let there : a < length (route lists v) = Prim.grind arith in
      let ht : t < suc (length (route lists v) - k) = Prim.grind arith in
      let other : IsTrue (is_other a t) = Prim.grind arith in
      to_each _ (vehicles lists) v _ (to_below _ _ hv) (to_each _ (places (route lists v)) a _ (to_below _ _ there)
      (to_each _ (filter (has_chain (route lists v) a) (from_to 1 4)) k _
      (to_filter (has_chain (route lists v) a) (from_to 1 4) k (to_from_to 1 4 k low high) within_list)
      (to_map (OrOpt v a k) (filter (is_other a) (below (suc (length (route lists v) - k)))) t
      (to_filter (is_other a) (below (suc (length (route lists v) - k))) t (to_below _ _ ht) other))))

  -- ---- between two lists

  abbrev relocates : ℕ → ℕ → ℕ → List Move
  relocates v a w = map (Relocate v a w) (gaps (route lists w))

  passes_relocate : Passes all.Relocate
  passes_relocate mv h =
      from_each _ (vehicles lists) mv h λ v hv h2. from_each _ (places (route lists v)) mv h2 λ a ha h3.
      from_each (relocates v a) (filter (is_other v) (vehicles lists)) mv h3 λ w hw h4.
      from_map (Relocate v a w) (gaps (route lists w)) mv h4 λ t ht e.
      let w_there = of_filter (is_other v) (vehicles lists) w hw in
      moved mv (Relocate v a w t) e (numbers v a w t (of_below _ v hv) (of_below _ a ha) (of_below _ w w_there.0) w_there.1 (of_below _ t ht))
    where
      numbers : (v a w t : ℕ) → v < length lists → a < length (route lists v) → w < length lists
          → IsTrue (is_other v w) → t < suc (length (route lists w)) → IsTrue (is_move model lists (Relocate v a w t))
      numbers v a w t hv ha hw other ht = Prim.grind arith

  one_relocate : (v a w t : ℕ) → IsOne all.Relocate (Relocate v a w t)
  one_relocate v a w t h =
      let hv : v < length lists = Prim.grind arith in
      let ha : a < length (route lists v) = Prim.grind arith in
      let hw : w < length lists = Prim.grind arith in
      let other : IsTrue (is_other v w) = Prim.grind arith in
      let ht : t < suc (length (route lists w)) = Prim.grind arith in
      to_each _ (vehicles lists) v _ (to_below _ _ hv) (to_each _ (places (route lists v)) a _ (to_below _ _ ha)
      (to_each (relocates v a) (filter (is_other v) (vehicles lists)) w (Relocate v a w t)
      (to_filter (is_other v) (vehicles lists) w (to_below _ _ hw) other) (to_map (Relocate v a w) (gaps (route lists w)) t (to_below _ _ ht))))

  abbrev exchanges : ℕ → ℕ → ℕ → List Move
  exchanges v a w = map (Exchange v a w) (places_behind lists v a w)

  passes_exchange : Passes all.Exchange
  passes_exchange mv h =
      from_each _ (vehicles lists) mv h λ v hv h2. from_each _ (places (route lists v)) mv h2 λ a ha h3.
      from_each (exchanges v a) (from_to v (length lists)) mv h3 λ w hw h4.
      from_map (Exchange v a w) (places_behind lists v a w) mv h4 λ b hb e.
      let w_there = of_from_to v (length lists) w hw in
      let b_there = of_from_to _ (length (route lists w)) b hb in
      moved mv (Exchange v a w b) e (numbers v a w b (of_below _ v hv) (of_below _ a ha) w_there.0 w_there.1 (v == w) refl b_there.0 b_there.1)
    where
      numbers : (v a w b : ℕ) → v < length lists → a < length (route lists v) → v ≤ w → w < length lists → (c : Bool)
          → (v == w) ≡ c → cond c (suc a) 0 ≤ b → b < length (route lists w) → IsTrue (is_move model lists (Exchange v a w b))
      numbers v a w b hv ha low hw true same behind hb = Prim.grind arith
      numbers v a w b hv ha low hw false other behind hb = Prim.grind arith

  one_exchange : (v a w b : ℕ) → IsOne all.Exchange (Exchange v a w b)
  one_exchange v a w b h =
      let hv : v < length lists = Prim.grind arith in
      let ha : a < length (route lists v) = Prim.grind arith in
      let low : v ≤ w = Prim.grind arith in
      let hw : w < length lists = Prim.grind arith in
      let hb : b < length (route lists w) = Prim.grind arith in
      to_each _ (vehicles lists) v _ (to_below _ _ hv) (to_each _ (places (route lists v)) a _ (to_below _ _ ha)
      (to_each _ (from_to v (length lists)) w _ (to_from_to _ _ _ low hw)
      (to_map (Exchange v a w) (places_behind lists v a w) b (to_from_to _ _ _ (behind (v == w) refl) hb))))
    where
      behind : (c : Bool) → (v == w) ≡ c → cond c (suc a) 0 ≤ b
      behind true same = Prim.grind arith
      behind false other = omega arith

  abbrev crosses : ℕ → ℕ → ℕ → List Move
  crosses v a w = map (Cross v a w) (filter (has_some_front a) (gaps (route lists w)))

  abbrev crosses_from : ℕ → ℕ → List Move
  crosses_from v a = each (from_to (suc v) (length lists)) (crosses v a)

  passes_cross : Passes all.Cross
  passes_cross mv h =
      from_each _ (vehicles lists) mv h λ v hv h2. from_each (crosses_from v) (gaps (route lists v)) mv h2 λ a ha h3.
      from_each (crosses v a) (from_to (suc v) (length lists)) mv h3 λ w hw h4.
      from_map (Cross v a w) (filter (has_some_front a) (gaps (route lists w))) mv h4 λ b hb e.
      let w_there = of_from_to (suc v) (length lists) w hw in
      let b_there = of_filter (has_some_front a) (gaps (route lists w)) b hb in
      moved mv (Cross v a w b) e (numbers v a w b (of_below _ a ha) w_there.0 w_there.1 (of_below _ b b_there.0) b_there.1)
    where
      numbers : (v a w b : ℕ) → a < suc (length (route lists v)) → suc v ≤ w → w < length lists
          → b < suc (length (route lists w)) → IsTrue (has_some_front a b) → IsTrue (is_move model lists (Cross v a w b))
      numbers v a w b ha low hw hb some = and_both (nat_lt w (length lists)) _ (Prim.grind arith)
          (and_both (nat_lt v w) _ (Prim.grind arith)
          (and_both (nat_le a (length (route lists v))) _ (Prim.grind arith) (and_both (nat_le b (length (route lists w))) _ (Prim.grind arith) some)))

  one_cross : (v a w b : ℕ) → IsOne all.Cross (Cross v a w b)
  one_cross v a w b h =
      let hw : w < length lists = Prim.grind arith in
      let low : suc v ≤ w = Prim.grind arith in
      let ha : a < suc (length (route lists v)) = Prim.grind arith in
      let hb : b < suc (length (route lists w)) = Prim.grind arith in
      let some = and_right (nat_le b (length (route lists w))) _
      (and_right (nat_le a (length (route lists v))) _ (and_right (nat_lt v w) _ (and_right (nat_lt w (length lists)) _ h))) in
      to_each _ (vehicles lists) v _ (to_below _ _ (omega (arith, low, hw)))
      (to_each (crosses_from v) (gaps (route lists v)) a (Cross v a w b) (to_below _ _ ha)
      (to_each (crosses v a) (from_to (suc v) (length lists)) w (Cross v a w b) (to_from_to _ _ _ low hw)
      (to_map (Cross v a w) (filter (has_some_front a) (gaps (route lists w))) b
      (to_filter (has_some_front a) (gaps (route lists w)) b (to_below _ _ hb) some))))

  -- ---- pairs

  abbrev relocations_at : ℕ → ℕ → ℕ → List Move
  relocations_at p w s = map (RelocatePair p w s) (filter (changes p w s) (from_to s (suc (length (rest p w)))))

  abbrev relocations_to : ℕ → ℕ → List Move
  relocations_to p w = each (gaps (rest p w)) (relocations_at p w)

  abbrev relocations_of : ℕ → List Move
  relocations_of p = each (vehicles lists) (relocations_to p)

  passes_relocate_pair : Passes all.RelocatePair
  passes_relocate_pair mv h =
      from_each relocations_of (filter (is_pair_served model lists) (pairs model)) mv h λ p hp h2.
      from_each (relocations_to p) (vehicles lists) mv h2 λ w hw h3. from_each (relocations_at p w) (gaps (rest p w)) mv h3 λ s hs h4.
      from_map (RelocatePair p w s) (filter (changes p w s) (from_to s (suc (length (rest p w))))) mv h4 λ t ht e.
      let p_there = of_filter (is_pair_served model lists) (pairs model) p hp in
      let t_there = of_filter (changes p w s) (from_to s (suc (length (rest p w)))) t ht in
      let range = of_from_to s (suc (length (rest p w))) t t_there.0 in
      moved mv (RelocatePair p w s t) e (and_both (is_pair_served model lists p) _ p_there.1
      (and_both (may_put_pair model lists p w (length (rest p w)) s t) (changes p w s t)
      (pair_test p w (length (rest p w)) s t (of_below _ p p_there.0) (of_below _ w hw) range.0 range.1) t_there.1))

  one_relocate_pair : (p w s t : ℕ) → IsOne all.RelocatePair (RelocatePair p w s t)
  one_relocate_pair p w s t h =
      let numbers = pair_numbers p w (length (rest p w)) s t
      (and_left (may_put_pair model lists p w (length (rest p w)) s t) _ (and_right (is_pair_served model lists p) _ h)) in
      let served = and_left (is_pair_served model lists p) _ h in
      let other = and_right (may_put_pair model lists p w (length (rest p w)) s t) (changes p w s t) (and_right (is_pair_served model lists p) _ h) in
      let low = numbers.2 in let high = numbers.3 in
      let there : s < suc (length (rest p w)) = omega (arith, low, high) in
      to_each relocations_of (filter (is_pair_served model lists) (pairs model)) p (RelocatePair p w s t)
      (to_filter (is_pair_served model lists) (pairs model) p (to_below _ _ numbers.0) served)
      (to_each (relocations_to p) (vehicles lists) w (RelocatePair p w s t) (to_below _ _ numbers.1)
      (to_each (relocations_at p w) (gaps (rest p w)) s (RelocatePair p w s t) (to_below _ _ there)
      (to_map (RelocatePair p w s) (filter (changes p w s) (from_to s (suc (length (rest p w))))) t
      (to_filter (changes p w s) (from_to s (suc (length (rest p w)))) t (to_from_to _ _ _ low high) other))))

  abbrev insertions_at : ℕ → ℕ → ℕ → List Move
  insertions_at p w s = map (PairActive p w s) (from_to s (suc (length (route lists w))))

  abbrev insertions_to : ℕ → ℕ → List Move
  insertions_to p w = each (gaps (route lists w)) (insertions_at p w)

  abbrev insertions_of : ℕ → List Move
  insertions_of p = each (vehicles lists) (insertions_to p)

  passes_pair_active : Passes all.PairActive
  passes_pair_active mv h =
      from_each insertions_of (filter (is_pair_inactive model lists) (pairs model)) mv h λ p hp h2.
      from_each (insertions_to p) (vehicles lists) mv h2 λ w hw h3. from_each (insertions_at p w) (gaps (route lists w)) mv h3 λ s hs h4.
      from_map (PairActive p w s) (from_to s (suc (length (route lists w)))) mv h4 λ t ht e.
      let p_there = of_filter (is_pair_inactive model lists) (pairs model) p hp in
      let range = of_from_to s (suc (length (route lists w))) t ht in
      moved mv (PairActive p w s t) e
      (and_both (is_pair_inactive model lists p) _ p_there.1
      (pair_test p w (length (route lists w)) s t (of_below _ p p_there.0) (of_below _ w hw) range.0 range.1))

  one_pair_active : (p w s t : ℕ) → IsOne all.PairActive (PairActive p w s t)
  one_pair_active p w s t h =
      let numbers = pair_numbers p w (length (route lists w)) s t (and_right (is_pair_inactive model lists p) _ h) in
      let absent = and_left (is_pair_inactive model lists p) _ h in
      let low = numbers.2 in let high = numbers.3 in
      let there : s < suc (length (route lists w)) = omega (arith, low, high) in
      to_each insertions_of (filter (is_pair_inactive model lists) (pairs model)) p (PairActive p w s t)
      (to_filter (is_pair_inactive model lists) (pairs model) p (to_below _ _ numbers.0) absent)
      (to_each (insertions_to p) (vehicles lists) w (PairActive p w s t) (to_below _ _ numbers.1)
      (to_each (insertions_at p w) (gaps (route lists w)) s (PairActive p w s t) (to_below _ _ there)
      (to_map (PairActive p w s) (from_to s (suc (length (route lists w)))) t (to_from_to _ _ _ low high))))

  passes_pair_inactive : Passes all.PairInactive
  passes_pair_inactive mv h = from_map PairInactive (filter (is_pair_together model lists) (pairs model)) mv h λ p hp e.
      let p_there = of_filter (is_pair_together model lists) (pairs model) p hp in
      moved mv (PairInactive p) e (and_both (nat_lt p (length model.pairs)) _ (test_of_lt _ _ (of_below _ p p_there.0)) p_there.1)

  one_pair_inactive : (p : ℕ) → IsOne all.PairInactive (PairInactive p)
  one_pair_inactive p h = to_map PairInactive (filter (is_pair_together model lists) (pairs model)) p
      (to_filter (is_pair_together model lists) (pairs model) p
      (to_below _ _ (lt_of_test p (length model.pairs) (and_left (nat_lt p (length model.pairs)) _ h))) (and_right (nat_lt p (length model.pairs)) _ h))

  -- ---- one node made active or inactive

  of_inactive : (u : ℕ) → In (inactive model lists) u → IsTrue (is_inactive model lists u)
  of_inactive u h =
      let r = of_filter (λ node. not (is_active lists node)) (visits model) u h in
      let v = of_filter (is_visit model) (below model.nodes) u r.0 in
      and_both (is_visit model u) _ v.1 r.1

  to_inactive : (u : ℕ) → IsTrue (is_inactive model lists u) → In (inactive model lists) u
  to_inactive u h =
      let visit = and_left (is_visit model u) _ h in
      to_filter (λ node. not (is_active lists node)) (visits model) u
      (to_filter (is_visit model) (below model.nodes) u (to_below _ _ (lt_of_test u model.nodes (and_left (nat_lt u model.nodes) _ visit))) visit)
      (and_right (is_visit model u) _ h)

  abbrev activations_to : ℕ → ℕ → List Move
  activations_to u w = map (MakeActive u w) (gaps (route lists w))

  abbrev activations_of : ℕ → List Move
  activations_of u = each (vehicles lists) (activations_to u)

  passes_make_active : Passes all.MakeActive
  passes_make_active mv h =
      from_each activations_of (inactive model lists) mv h λ u hu h2. from_each (activations_to u) (vehicles lists) mv h2 λ w hw h3.
      from_map (MakeActive u w) (gaps (route lists w)) mv h3 λ t ht e.
      moved mv (MakeActive u w t) e (and_both (is_inactive model lists u) _ (of_inactive u hu) (numbers w t (of_below _ w hw) (of_below _ t ht)))
    where
      numbers : (w t : ℕ) → w < length lists → t < suc (length (route lists w)) → IsTrue (is_vehicle lists w && is_gap lists w t)
      numbers w t hw ht = Prim.grind arith

  one_make_active : (u w t : ℕ) → IsOne all.MakeActive (MakeActive u w t)
  one_make_active u w t h =
      let numbers = and_right (is_inactive model lists u) _ h in
      to_each activations_of (inactive model lists) u (MakeActive u w t) (to_inactive u (and_left (is_inactive model lists u) _ h))
      (to_each (activations_to u) (vehicles lists) w (MakeActive u w t)
      (to_below _ _ (lt_of_test w (length lists) (and_left (is_vehicle lists w) _ numbers)))
      (to_map (MakeActive u w) (gaps (route lists w)) t (to_below _ _ (gap t (length (route lists w)) (and_right (is_vehicle lists w) _ numbers)))))
    where
      gap : (t n : ℕ) → IsTrue (nat_le t n) → t < suc n
      gap t n h = Prim.grind arith

  passes_make_inactive : Passes all.MakeInactive
  passes_make_inactive mv h =
      from_each _ (vehicles lists) mv h λ v hv h2. from_map (MakeInactive v) (places (route lists v)) mv h2 λ a ha e.
      moved mv (MakeInactive v a) e (place_test v a (of_below _ v hv) (of_below _ a ha))

  one_make_inactive : (v a : ℕ) → IsOne all.MakeInactive (MakeInactive v a)
  one_make_inactive v a h = to_each _ (vehicles lists) v _ (to_below _ _ (lt_of_test v (length lists) (and_left (is_vehicle lists v) _ h)))
      (to_map (MakeInactive v) (places (route lists v)) a (to_below _ _ (lt_of_test a (length (route lists v)) (and_right (is_vehicle lists v) _ h))))

  passes_swap_active : Passes all.SwapActive
  passes_swap_active mv h =
      from_each _ (vehicles lists) mv h λ v hv h2. from_each _ (places (route lists v)) mv h2 λ a ha h3.
      from_map (SwapActive v a) (inactive model lists) mv h3 λ u hu e.
      moved mv (SwapActive v a u) e
      (and_both (is_vehicle lists v) _ (test_of_lt _ _ (of_below _ v hv))
      (and_both (is_place lists v a) _ (test_of_lt _ _ (of_below _ a ha)) (of_inactive u hu)))

  one_swap_active : (v a u : ℕ) → IsOne all.SwapActive (SwapActive v a u)
  one_swap_active v a u h =
      let others = and_right (is_vehicle lists v) _ h in
      to_each _ (vehicles lists) v _ (to_below _ _ (lt_of_test v (length lists) (and_left (is_vehicle lists v) _ h)))
      (to_each _ (places (route lists v)) a _ (to_below _ _ (lt_of_test a (length (route lists v)) (and_left (is_place lists v a) _ others)))
      (to_map (SwapActive v a) (inactive model lists) u (to_inactive u (and_right (is_place lists v a) _ others))))

  -- ---- all neighbourhoods

  passes : (neighbourhood : Neighbourhood) → Passes neighbourhood
  passes all.TwoOpt = passes_two_opt
  passes all.OrOpt = passes_or_opt
  passes all.Relocate = passes_relocate
  passes all.Exchange = passes_exchange
  passes all.Cross = passes_cross
  passes all.RelocatePair = passes_relocate_pair
  passes all.PairActive = passes_pair_active
  passes all.PairInactive = passes_pair_inactive
  passes all.MakeActive = passes_make_active
  passes all.MakeInactive = passes_make_inactive
  passes all.SwapActive = passes_swap_active

  neighbourhood_of : Move → Neighbourhood
  neighbourhood_of (TwoOpt v a b) = all.TwoOpt
  neighbourhood_of (OrOpt v a k t) = all.OrOpt
  neighbourhood_of (Relocate v a w t) = all.Relocate
  neighbourhood_of (Exchange v a w b) = all.Exchange
  neighbourhood_of (Cross v a w b) = all.Cross
  neighbourhood_of (RelocatePair p w s t) = all.RelocatePair
  neighbourhood_of (PairActive p w s t) = all.PairActive
  neighbourhood_of (PairInactive p) = all.PairInactive
  neighbourhood_of (MakeActive u w t) = all.MakeActive
  neighbourhood_of (MakeInactive v a) = all.MakeInactive
  neighbourhood_of (SwapActive v a u) = all.SwapActive

  is_one : (mv : Move) → IsOne (neighbourhood_of mv) mv
  unfolding neighbourhood_of
  is_one (TwoOpt v a b) = one_two_opt v a b
  is_one (OrOpt v a k t) = one_or_opt v a k t
  is_one (Relocate v a w t) = one_relocate v a w t
  is_one (Exchange v a w b) = one_exchange v a w b
  is_one (Cross v a w b) = one_cross v a w b
  is_one (RelocatePair p w s t) = one_relocate_pair p w s t
  is_one (PairActive p w s t) = one_pair_active p w s t
  is_one (PairInactive p) = one_pair_inactive p
  is_one (MakeActive u w t) = one_make_active u w t
  is_one (MakeInactive v a) = one_make_inactive v a
  is_one (SwapActive v a u) = one_swap_active v a u

pub in_all : (neighbourhood : Neighbourhood) → In all_neighbourhoods neighbourhood
in_all all.TwoOpt = inl refl
in_all all.OrOpt = inr (inl refl)
in_all all.Relocate = inr (inr (inl refl))
in_all all.Exchange = inr (inr (inr (inl refl)))
in_all all.Cross = inr (inr (inr (inr (inl refl))))
in_all all.RelocatePair = inr (inr (inr (inr (inr (inl refl)))))
in_all all.PairActive = inr (inr (inr (inr (inr (inr (inl refl))))))
in_all all.PairInactive = inr (inr (inr (inr (inr (inr (inr (inl refl)))))))
in_all all.MakeActive = inr (inr (inr (inr (inr (inr (inr (inr (inl refl))))))))
in_all all.MakeInactive = inr (inr (inr (inr (inr (inr (inr (inr (inr (inl refl)))))))))
in_all all.SwapActive = inr (inr (inr (inr (inr (inr (inr (inr (inr (inr (inl refl))))))))))

pub moves_as_tested : MovesAsTested
unfolding moves_over
moves_as_tested model lists mv = (there, back)
  where
    there : Contains (each all_neighbourhoods (moves_in model lists)) mv → IsTrue (is_move model lists mv)
    there h = from_each (moves_in model lists) all_neighbourhoods mv (of_contains _ mv h) λ neighbourhood known found. passes model lists neighbourhood mv found

    back : IsTrue (is_move model lists mv) → Contains (each all_neighbourhoods (moves_in model lists)) mv
    back h = to_contains _ mv (to_each (moves_in model lists) all_neighbourhoods (neighbourhood_of model lists mv) mv (in_all _) (is_one model lists mv h))
