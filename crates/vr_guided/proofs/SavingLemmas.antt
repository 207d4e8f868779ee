-- A move takes no more of the penalised arc costs than the arcs of the vehicles whose lists it changes add.
use Rattle.std.proofs.Common.{◌≡◌, ◌≢◌, ◌∙◌, inl, inr, ℕ, ◌<◌, true, false, cond, nat_lt, List, length, Option, Some, None, sym, ap, arith}
use Rattle.std.specs.Prelude.{ℤ, pos, ◌+ℤ◌, ◌-ℤ◌, ◌≤ℤ◌, ◌==◌, IsTrue, IfSome}
use Rattle.std.proofs.lemmas.Int.{ints}
use Rattle.std.proofs.lemmas.Bool.Decides.{eqb_tells}
use Rattle.vr_model.specs.tables.Numbers.{below, total_by}
use Rattle.vr_model.specs.tables.WellFormed.{IsWellFormed}
use Rattle.vr_model.specs.moves.Moves.{apply}
use Rattle.vr_model.specs.moves.MoveTests.{is_move}
use Rattle.vr_model.specs.routes.Routes.{are_lists, route}
use Rattle.vr_model.specs.routes.Rules.{is_valid}
use Rattle.vr_model.specs.search.GuidedSearches.{Penalties, penalised}
use Rattle.vr_model.specs.declared.neighbours.Move.{Move}
use Rattle.vr_model.specs.declared.neighbours.Move.TheVariants.{TwoOpt, OrOpt, Relocate, Exchange, Cross, RelocatePair, PairActive, PairInactive, MakeActive}
use Rattle.vr_model.specs.declared.neighbours.Move.TheVariants.{MakeInactive, SwapActive}
use Rattle.vr_model.specs.declared.records.Model.{Model}
use Rattle.vr_model.specs.declared.search.Lambda.{Lambda}
use Rattle.vr_model.proofs.moves.KeptLists.{few as all_once, moves_keep_lists}
use Rattle.vr_model.proofs.routes.Lists.{are-lists, are_lists-count, route-below}
use Rattle.vr_routes.specs.Runs.{with_last}
use Rattle.vr_known.specs.Touching.{AreFound}
use Rattle.vr_known.specs.declared.touched.Touched.{Touched}
use Rattle.vr_known.proofs.TouchedLemmas.{SameBut, changed_have_lists, unchanged_kept}
use Rattle.vr_descent.specs.Scanned.{IsEnough, IsPassedOver}
use Rattle.vr_guided.specs.Counts.{AtMost}
use Rattle.vr_guided.specs.Guides.{is_gain, makes_less, penalised_change}
use Rattle.vr_guided.specs.Savings.{touched_weight, SavesAtMost}
use Rattle.vr_guided.specs.Walks.{route_weight}
use Rattle.vr_guided.proofs.BoundLemmas.{route-up_to}
use Rattle.vr_guided.proofs.GuideLemmas.{none_saved, passed_over}
use Rattle.vr_guided.proofs.RouteSumLemmas.{same_one}
use Rattle.vr_guided.proofs.PartLemmas.{sums}
use Rattle.vr_guided.proofs.TermLemmas.{term_none, term_there, two_terms}

module _ (model : Model) (p : Penalties) (lists : List (List ℕ)) (both : Touched) where
  abbrev at_first : ℤ
  at_first = route_weight model p both.first (route lists both.first)

  abbrev at_second : ℤ
  at_second = route_weight model p both.second (route lists both.second)

  pub one_touched : both.second ≡ both.first → touched_weight model p lists both ≡ route_weight model p both.first (route lists both.first)
  one_touched same =
      let value : touched_weight model p lists both ≡ at_first +ℤ pos 0 = ap (λ b. at_first +ℤ cond b (pos 0) at_second) (test same) in
      omega (arith, ints, value)
    where
      test : both.second ≡ both.first → (both.second == both.first) ≡ true
      test e = Prim.grind (arith, e)

  pub two_touched : both.second ≢ both.first → touched_weight model p lists both
      ≡ route_weight model p both.first (route lists both.first) +ℤ route_weight model p both.second (route lists both.second)
  two_touched apart = ap (λ b. at_first +ℤ cond b (pos 0) at_second) (test apart)
    where
      test : both.second ≢ both.first → (both.second == both.first) ≡ false
      test e = Prim.grind (arith, e)

  -- where neither adds anything
  pub none_touched : route_weight model p both.first (route lists both.first) ≡ pos 0
      → route_weight model p both.second (route lists both.second) ≡ pos 0 → touched_weight model p lists both ≤ℤ pos 0
  none_touched none none_w = elim (eqb_tells both.second both.first) [
    | inl same ↦ (let value = one_touched same.1 in omega (arith, ints, value, none))
    | inr apart ↦ (let value = two_touched apart.1 in omega (arith, ints, value, none, none_w))
  ]

module _ (model : Model) (well : IsWellFormed model) (p : Penalties) (few : AtMost 1000000000 p) where
  -- the arcs of a vehicle add nothing less than 0
  route_low : (lists : List (List ℕ)) → IsTrue (are_lists model lists) → (v : ℕ) → v < length lists → pos 0 ≤ℤ route_weight model p v (route lists v)
  route_low lists are v low =
      let many = are_lists-count model lists are in
      (route-up_to model well p few v (route lists v) (omega (arith, many, low)) (route-below model lists v are)).at_least

  module _ (lists later : List (List ℕ)) (are : IsTrue (are_lists model lists)) (after : IsTrue (are_lists model later)) where
    abbrev g : ℕ → ℤ
    g v = route_weight model p v (route lists v)

    abbrev h : ℕ → ℤ
    h v = route_weight model p v (route later v)

    many : length later ≡ length lists
    many = are_lists-count model later after ∙ sym (are_lists-count model lists are)

    -- lists that are the same but for two vehicles
    taken : (v w : ℕ) → SameBut v w lists later → total_by g (below (length lists))
        ≤ℤ (total_by h (below (length lists)) +ℤ (cond (nat_lt v (length lists)) (g v) (pos 0) +ℤ cond (nat_lt w (length lists)) (g w) (pos 0)))
    taken v w same = two_terms g h (length lists) (route_low lists are) (λ u low. route_low later after u (let n = many in omega (arith, n, low)))
        v w (λ u apart too. ap (route_weight model p u) (sym (same u apart too))) (length lists) (omega arith)

    both_sums : (penalised model p lists ≡ total_by g (below (length lists))) × (penalised model p later ≡ total_by h (below (length lists)))
    both_sums = (sums model p lists, sums model p later ∙ ap (λ n. total_by h (below n)) many)

    pub touched_most : (both : Touched) → both.first < length lists → both.second < length lists → SameBut both.first both.second lists later
        → (penalised model p lists -ℤ penalised model p later) ≤ℤ touched_weight model p lists both
    touched_most both low low_w same = elim (eqb_tells both.second both.first) [
      | inl one ↦ (
          let weight = one_touched model p lists both one.1 in
          let all = taken both.first (length lists) (λ u apart _. same_one both.first both.second lists later one.1 same u apart apart) in
          let there = term_there g both.first (length lists) low in
          let none = term_none g (length lists) (length lists) (omega arith) in
          omega (arith, ints, both_sums.0, both_sums.1, weight, all, there, none)
          )
      | inr apart ↦ (
          let weight = two_touched model p lists both apart.1 in
          let all = taken both.first both.second same in
          let there = term_there g both.first (length lists) low in
          let other = term_there g both.second (length lists) low_w in
          omega (arith, ints, both_sums.0, both_sums.1, weight, all, there, other)
          )
    ]

  -- a move takes no more than they add
  pub saved_most : (lists : List (List ℕ)) → IsTrue (is_valid model lists) → (mv : Move)
      → IsTrue (is_move model lists mv) → (both : Touched) → AreFound model lists mv (Some both)
      → (penalised model p lists -ℤ penalised model p (apply model lists mv)) ≤ℤ touched_weight model p lists both
  saved_most lists valid mv h both told =
      let are = are-lists model lists valid in
      let low = changed_have_lists model lists mv h both told in
      touched_most lists (apply model lists mv) are (moves_keep_lists model well lists mv are h)
      both low.0 low.1 (unchanged_kept model lists (all_once model lists are) mv h both told)

-- a move is not taken where so much is no gain with the least difference that it may make
never_a_gain : (model : Model) (p : Penalties) (lambda : Lambda) → pos 1 ≤ℤ lambda.p → pos 1 ≤ℤ lambda.q
    → (lists : List (List ℕ)) (mv : Move) (saved : ℤ) → (penalised model p lists -ℤ penalised model p (apply model lists mv)) ≤ℤ saved
    → (least : ℤ) → is_gain lambda least (pos 0 -ℤ saved) ≡ false → IsPassedOver model (makes_less model lambda p) lists mv least
never_a_gain model p lambda p_some q_some lists mv saved most least none after low =
    let change = penalised_change model p lists mv in
    let no_more = no_less (penalised model p lists) (penalised model p (apply model lists mv)) saved most in
    passed_over model lambda p lists mv least q_some (none_saved lambda least change saved p_some none no_more) low
  where
    no_less : (before after saved : ℤ) → (before -ℤ after) ≤ℤ saved → pos 0 ≤ℤ ((after -ℤ before) +ℤ saved)
    no_less before after saved most = omega (arith, ints, most)

-- moves that differ in their last number change the lists of the same vehicles
same_changed : (model : Model) (lists : List (List ℕ)) (mv : Move) (k : ℕ) (both : Touched)
    → AreFound model lists mv (Some both) → AreFound model lists (with_last mv k) (Some both)
same_changed model lists (TwoOpt v a b) k both told = told
same_changed model lists (OrOpt v a n t) k both told = told
same_changed model lists (Relocate v a w t) k both told = told
same_changed model lists (Exchange v a w b) k both told = told
same_changed model lists (Cross v a w b) k both told = told
same_changed model lists (RelocatePair p w s t) k both told = told
same_changed model lists (PairActive p w s t) k both told = told
same_changed model lists (PairInactive p) k both told = told
same_changed model lists (MakeActive u w t) k both told = told
same_changed model lists (MakeInactive v a) k both told = told
same_changed model lists (SwapActive v a u) k both told = told

-- what the arcs of two vehicles add is enough for all moves of a run that changes their lists
pub run_saved : (model : Model) → IsWellFormed model → (p : Penalties) → AtMost 1000000000 p → (lists : List (List ℕ))
    → IsTrue (is_valid model lists) → (mv : Move) (both : Touched) → AreFound model lists mv (Some both)
    → (saved : ℤ) → touched_weight model p lists both ≤ℤ saved → SavesAtMost model p lists mv saved
run_saved model well p few lists valid mv both told saved most k one =
    let within = saved_most model well p few lists valid (with_last mv k) one both (same_changed model lists mv k both told) in
    omega (arith, ints, within, most)

-- what is no gain with the most that a run saves is enough for its moves
pub enough_for_run : (model : Model) (p : Penalties) (lambda : Lambda) → pos 1 ≤ℤ lambda.p
    → pos 1 ≤ℤ lambda.q → (lists : List (List ℕ)) (mv : Move) (saved : ℤ) → SavesAtMost model p lists mv saved
    → (enough : Option ℤ) → IfSome enough (λ e. is_gain lambda e (pos 0 -ℤ saved) ≡ false) → IfSome enough (IsEnough model (makes_less model lambda p) lists mv)
enough_for_run model p lambda p_some q_some lists mv saved most None none = cc
enough_for_run model p lambda p_some q_some lists mv saved most (Some enough) none = λ k one.
    never_a_gain model p lambda p_some q_some lists (with_last mv k) saved (most k one) enough none
