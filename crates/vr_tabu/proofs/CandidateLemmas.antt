-- The best candidate so far, and one move more.
use Rattle.std.proofs.Common.{◌≡◌, ◌∙◌, ℕ, Bool, true, false, cond, not, List, [], ◌∷◌, Option, Some, None, refl, sym, ap, ap₂, subst, arith, inl, inr, w64}
use Rattle.std.proofs.Common.{to_z, of_z}
use Rattle.std.proofs.lemmas.Int.{ints}
use Rattle.std.specs.Prelude.{ℤ, pos, ◌-◌, ◌^◌, ◌-ℤ◌, ◌≤ℤ◌, int_lt, int_le, ◌&&◌, ◌||◌, IsTrue, IfSome}
use Rattle.std.specs.List.{list_all}
use Rattle.vr_model.specs.deciding.Testing.{and_both, and_left, and_right, le_of_test}
use Rattle.vr_model.specs.first.Choosing.{better}
use Rattle.vr_model.specs.moves.Moves.{apply}
use Rattle.vr_model.specs.routes.CostLaws.{HasBoundedCost}
use Rattle.vr_model.specs.routes.Costs.{cost}
use Rattle.vr_model.specs.routes.Rules.{is_valid}
use Rattle.vr_model.specs.tables.Numbers.{below as below_all, is_lex_less}
use Rattle.vr_model.specs.tables.Tables.{is_visit, visits}
use Rattle.vr_model.specs.tables.WellFormed.{IsWellFormed}
use Rattle.vr_model.specs.declared.records.Model.{Model}
use Rattle.vr_model.specs.declared.neighbours.Move.{Move}
use Rattle.vr_model.proofs.routes.CostFits.{costs_are_bounded}
use Rattle.vr_model.proofs.tables.Members.{In, of_below, of_filter}
use Rattle.vr_model.proofs.tables.Tests.{clash}
use Rattle.vr_routes.specs.Judging.{IsDifferenceBound, IsNoLess, cost_change, verdict_of}
use Rattle.vr_routes.specs.declared.judging.Verdict.TheVariants.{Refused, Difference}
use Rattle.vr_routes.specs.Tours.{Tours}
use Rattle.vr_tabu.specs.Changed.{changed_visits, is_changed}
use Rattle.vr_tabu.specs.Rounds.{IsCeiling, IsDifferenceKnown, IsNoBetter, IsPassedInRound, aspiration, better_with, bound_of, is_no_less, move_of}
use Rattle.vr_tabu.specs.Standing.{IsKnownState}
use Rattle.vr_tabu.specs.Tabus.{AreAllTabu}
use Rattle.vr_tabu.specs.TabuSearches.{TabuList, is_candidate, is_tabu, is_tabu_visit}
use Rattle.vr_tabu.specs.declared.rounds.Candidate.{Candidate}
use Rattle.vr_tabu.specs.declared.searching.State.{State}

-- lists of one number compare as these
pub lex_one : (a b : ℤ) → is_lex_less (a ∷ []) (b ∷ []) ≡ int_lt a b
lex_one a b = by (int_lt a b) (int_le a b)
  where
    by : (p q : Bool) → (p || (q && false)) ≡ p
    by true q = refl
    by false true = refl
    by false false = refl

not_below : (a b c least : ℤ) → IsTrue (int_le (a -ℤ b) least) → least ≤ℤ (c -ℤ b) → int_lt c a ≡ false
not_below a b c least h low = let le = le_of_test (a -ℤ b) least h in Prim.grind (arith, ints, le, low)

below : (a b c least : ℤ) → int_le (a -ℤ b) (c -ℤ b) ≡ false → int_lt c a ≡ true
below a b c least h = Prim.grind (arith, ints, h)

at_least : (least a b : ℤ) → IsTrue (int_le a least) → least ≤ℤ b → IsTrue (int_le a b)
at_least least a b h low = let le = le_of_test a least h in Prim.grind (arith, ints, le, low)

-- a move that makes no less of a difference than a bound
pub no_less_passed : (model : Model) (lists : List (List ℕ)) (bound : ℤ) (mv : Move)
    → IsNoLess model lists mv bound → IsPassedInRound model lists (Some bound) mv
no_less_passed model lists bound mv h one valid = by bound (cost_change model lists mv) (h one valid)
  where
    by : (a b : ℤ) → a ≤ℤ b → IsTrue (int_le a b)
    by a b low = Prim.grind (arith, ints, low)

each_passes : (test : ℕ → Bool) (xs : List ℕ) → ((x : ℕ) → In xs x → IsTrue (test x)) → list_all test xs ≡ true
each_passes test [] each = refl
each_passes test (x ∷ xs) each = and_both (test x) (list_all test xs) (each x (inl refl)) (each_passes test xs (λ y there. each y (inr there)))

module _ (model : Model) (tabus : TabuList) (best lists : List (List ℕ)) where
  abbrev key : Move → List ℤ
  key mv = cost model (apply model lists mv) ∷ []

  abbrev after : Move → List (List ℕ)
  after mv = apply model lists mv

  abbrev valid_after : Move → Bool
  valid_after mv = is_valid model (after mv)

  -- a move that is no candidate
  not_candidate : (found : Option Candidate) (mv : Move) → is_candidate model tabus best lists mv ≡ false
      → move_of found ≡ better_with model tabus best lists (move_of found) mv
  not_candidate found mv e = sym (ap (λ b. cond b (better key (move_of found) mv) (move_of found)) e)

  -- a move that is no better than the best candidate so far
  pub dearer : (found : Option Candidate) (ceiling : Option ℤ) (mv : Move) → IfSome found (IsDifferenceKnown model lists)
      → IsCeiling model tabus best lists ceiling → IsNoBetter model lists mv (bound_of found ceiling)
      → move_of found ≡ better_with model tabus best lists (move_of found) mv
  dearer found ceiling mv known low worse = by (is_candidate model tabus best lists mv) refl
    where
      kept : (found : Option Candidate) → IfSome found (IsDifferenceKnown model lists)
          → is_candidate model tabus best lists mv ≡ true → IsTrue (is_no_less (bound_of found ceiling) (cost_change model lists mv))
          → move_of found ≡ better key (move_of found) mv
      kept None known one h = absurd (clash (is_candidate model tabus best lists mv) one (low mv h))
      kept (Some c) known one h =
          let less : int_lt (cost model (after mv)) (cost model (after c.mv)) ≡ false = not_below (cost model (after c.mv))
          (cost model lists) (cost model (after mv)) (cost_change model lists mv)
          (subst (λ d. IsTrue (int_le d (cost_change model lists mv))) known h) (omega (arith, ints)) in
          sym (ap (λ b. Some (cond b mv c.mv)) (lex_one (cost model (after mv)) (cost model (after c.mv)) ∙ less))

      by : (b : Bool) → is_candidate model tabus best lists mv ≡ b → move_of found ≡ better_with model tabus best lists (move_of found) mv
      by false e = not_candidate found mv e
      by true e = kept found known e (worse (and_left (valid_after mv) _ e)) ∙ sym (ap (λ b. cond b (better key (move_of found) mv) (move_of found)) e)

  -- a least difference that is not below a bound
  pub no_better_by : (bound : Option ℤ) (mv : Move) (least : ℤ) → IsDifferenceBound model lists mv least
      → IsTrue (is_no_less bound least) → IsNoBetter model lists mv bound
  no_better_by None mv least low h = absurd (clash false h refl)
  no_better_by (Some c) mv least low h = λ valid. at_least least c (cost_change model lists mv) h (low valid)

  -- a tabu move that leads to lists that cost no less than the best
  forbidden : (mv : Move) (least : ℤ) → IsDifferenceBound model lists mv least → is_tabu model tabus lists (after mv) ≡ true
      → IsTrue (int_le (aspiration model best lists) least) → is_candidate model tabus best lists mv ≡ false
  forbidden mv least low tabu h = by (valid_after mv) refl
    where
      by : (b : Bool) → valid_after mv ≡ b → (b && (not (is_tabu model tabus lists (after mv)) || int_lt (cost model (after mv)) (cost model best))) ≡ false
      by false e = refl
      by true e = ap₂ (λ t l. not t || l) tabu (not_below (cost model best) (cost model lists) (cost model (after mv)) least h (low e))

  -- a move that is refused
  pub refused : (found : Option Candidate) (mv : Move) → Refused ≡ verdict_of model lists mv
      → move_of found ≡ better_with model tabus best lists (move_of found) mv
  refused found mv told = not_candidate found mv (by (valid_after mv) told)
    where
      by : (b : Bool) → Refused ≡ cond b (Difference (cost_change model lists mv)) Refused
          → (b && (not (is_tabu model tabus lists (after mv)) || int_lt (cost model (after mv)) (cost model best))) ≡ false
      by true e = absurd cc
      by false e = refl

  -- the difference of a move that is taken is known
  pub difference_known : (mv : Move) (difference : ℤ) → Difference difference ≡ verdict_of model lists mv → difference ≡ cost_change model lists mv
  difference_known mv difference told = by (valid_after mv) told
    where
      by : (b : Bool) → Difference difference ≡ cond b (Difference (cost_change model lists mv)) Refused → difference ≡ cost_change model lists mv
      by true e = Prim.cc
      by false e = absurd (no e)
        where
          no : Difference difference ≡ Refused → ⊥
          no e = Prim.cc

  -- the difference itself is a least one
  pub least_itself : (mv : Move) (difference : ℤ) → difference ≡ cost_change model lists mv → IsDifferenceBound model lists mv difference
  least_itself mv difference e valid = subst (λ d. d ≤ℤ cost_change model lists mv) (sym e) (omega (arith, ints))

  -- a tabu move that leads to lists that cost no less than the best before
  pub kept_out : (found : Option Candidate) (mv : Move) (difference : ℤ) → Difference difference ≡ verdict_of model lists mv
      → (int_le (aspiration model best lists) difference && is_tabu model tabus lists (after mv)) ≡ true
      → move_of found ≡ better_with model tabus best lists (move_of found) mv
  kept_out found mv difference told h = not_candidate found mv
      (forbidden mv difference (least_itself mv difference (difference_known mv difference told))
      (and_right (int_le (aspiration model best lists) difference) _ h) (and_left _ (is_tabu model tabus lists (after mv)) h))

  -- a move that is taken
  pub taken : (found : Option Candidate) (ceiling : Option ℤ) (mv : Move) (difference : ℤ)
      → IfSome found (IsDifferenceKnown model lists) → Difference difference ≡ verdict_of model lists mv
      → is_no_less (bound_of found ceiling) difference ≡ false
      → (int_le (aspiration model best lists) difference && is_tabu model tabus lists (after mv)) ≡ false
      → Some mv ≡ better_with model tabus best lists (move_of found) mv
  taken found ceiling mv difference known told better_ open_ =
      let is = differs (valid_after mv) told in
      sym (ap (λ b. cond b (better key (move_of found) mv) (move_of found))
      (is_one is.0 (subst (λ d. (int_le (aspiration model best lists) d && is_tabu model tabus lists (after mv)) ≡ false) is.1 open_))
      ∙ better_one found known (subst (λ d. is_no_less (bound_of found ceiling) d ≡ false) is.1 better_))
    where
      differs : (b : Bool) → Difference difference ≡ cond b (Difference (cost_change model lists mv)) Refused
          → (b ≡ true) × (difference ≡ cost_change model lists mv)
      differs true e = (refl, Prim.cc)
      differs false e = absurd (no e)
        where
          no : Difference difference ≡ Refused → ⊥
          no e = Prim.cc

      is_one : valid_after mv ≡ true → (int_le (aspiration model best lists) (cost_change model lists mv) && is_tabu model tabus lists (after mv)) ≡ false
          → is_candidate model tabus best lists mv ≡ true
      is_one valid free = ap₂ (λ v rest. v && rest) valid (by (is_tabu model tabus lists (after mv)) refl)
        where
          left_false : (a b : Bool) → b ≡ true → (a && b) ≡ false → a ≡ false
          left_false true b e f = absurd (clash b e f)
          left_false false b e f = refl

          by : (t : Bool) → is_tabu model tabus lists (after mv) ≡ t
              → (not (is_tabu model tabus lists (after mv)) || int_lt (cost model (after mv)) (cost model best)) ≡ true
          by true e = ap₂ (λ a l. not a || l) e
              (below (cost model best) (cost model lists) (cost model (after mv)) (cost_change model lists mv) (left_false _ _ e free))
          by false e = ap (λ a. not a || int_lt (cost model (after mv)) (cost model best)) e

      better_one : (found : Option Candidate) → IfSome found (IsDifferenceKnown model lists)
          → is_no_less (bound_of found ceiling) (cost_change model lists mv) ≡ false → better key (move_of found) mv ≡ Some mv
      better_one None known h = refl
      better_one (Some c) known h =
          let less : int_lt (cost model (after mv)) (cost model (after c.mv)) ≡ true = below (cost model (after c.mv))
          (cost model lists) (cost model (after mv)) (cost_change model lists mv)
          (subst (λ d. int_le d (cost_change model lists mv) ≡ false) known h) in
          ap (λ b. Some (cond b mv c.mv)) (lex_one (cost model (after mv)) (cost model (after c.mv)) ∙ less)

  -- a difference that the judge tells fits 64 bits
  pub fits_change : (mv : Move) (difference : ℤ) → IsWellFormed model → IsTrue (is_valid model lists)
      → Difference difference ≡ verdict_of model lists mv → to_z w64 (of_z w64 difference) ≡ difference
  fits_change mv difference well valid told =
      let before = costs_are_bounded model well lists valid in
      let later = costs_are_bounded model well (after mv) (valid_one (valid_after mv) told) in
      reads difference (cost model (after mv)) (cost model lists) (difference_known mv difference told) before.least before.greatest later.least later.greatest
    where
      valid_one : (b : Bool) → Difference difference ≡ cond b (Difference (cost_change model lists mv)) Refused → b ≡ true
      valid_one true e = refl
      valid_one false e = absurd (differ e)
        where
          differ : Difference difference ≡ Refused → ⊥
          differ e = Prim.cc

      reads : (d a b : ℤ) → d ≡ a -ℤ b → pos 0 ≤ℤ b → b ≤ℤ pos (2 ^ 63 - 1) → pos 0 ≤ℤ a → a ≤ℤ pos (2 ^ 63 - 1) → to_z w64 (of_z w64 d) ≡ d
      reads d a b e low high least greatest = omega (arith, ints, e, low, high, least, greatest)

  -- where each visit is tabu, only moves to lists that cost less than the best before are candidates
  pub ceiling_where : AreAllTabu model tabus → (d : ℤ) → d ≡ aspiration model best lists → IsCeiling model tabus best lists (Some d)
  unfolding is_tabu
  ceiling_where all d e mv h = by (valid_after mv)
    where
      is_all : is_tabu model tabus lists (after mv) ≡ true
      is_all = each_passes (is_tabu_visit tabus) (changed_visits model lists (after mv)) λ visit there.
          let one = of_filter (is_changed model lists (after mv)) (visits model) visit there in
          let is = of_filter (is_visit model) (below_all model.nodes) visit one.0 in
          all visit (of_below model.nodes visit is.0) is.1

      by : (b : Bool) → (b && (not (is_tabu model tabus lists (after mv)) || int_lt (cost model (after mv)) (cost model best))) ≡ false
      by false = refl
      by true = ap₂ (λ t l. not t || l) is_all (not_below (cost model best) (cost model lists) (cost model (after mv)) (cost_change model lists mv)
          (subst (λ x. IsTrue (int_le x (cost_change model lists mv))) e h) (omega (arith, ints)))

  pub no_ceiling : IsCeiling model tabus best lists None
  no_ceiling mv h = absurd (clash false h refl)

-- the cost of the lists and that of the best ones so far are bounded
pub both_bounded : (model : Model) (routes : Tours) (state : State) → IsKnownState model routes state
    → HasBoundedCost model routes.lists × HasBoundedCost model state.best.routes.lists
both_bounded model routes state known =
    (costs_are_bounded model known.well_formed routes.lists known.valid, costs_are_bounded model known.well_formed state.best.routes.lists known.best.valid)
