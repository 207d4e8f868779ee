-- A round, move by move.
use Rattle.std.proofs.Common.{◌≡◌, ◌∙◌, ℕ, suc, ◌+◌, ◌<◌, ◌≤◌, Bool, true, false, cond, List, [], ◌∷◌, ◌++◌, length, length-append, Option, Some, None, refl}
use Rattle.std.proofs.Common.{sym, ap, ap₂, arith}
use Rattle.std.specs.Prelude.{ℤ, All, IfSome, nat_lt, fold, filter}
use Rattle.std.specs.List.{list_all}
use Rattle.std.proofs.lemmas.List.Elements.{All-head, All-tail}
use Rattle.vr_model.specs.deciding.Testing.{and_left, and_right}
use Rattle.vr_model.specs.moves.Moves.{apply, moves}
use Rattle.vr_model.specs.moves.MoveTests.{is_move}
use Rattle.vr_model.specs.routes.Costs.{cost}
use Rattle.vr_model.specs.first.Choosing.{better}
use Rattle.vr_model.specs.declared.records.Model.{Model}
use Rattle.vr_model.specs.declared.neighbours.Move.{Move}
use Rattle.vr_descent.proofs.PassedLemmas.{all_right}
use Rattle.vr_known.specs.Passing.{Passes, capped}
use Rattle.vr_routes.specs.Pieces.{ListAfter}
use Rattle.vr_tabu.specs.Rounds.{IsCeiling, IsChangeOf, IsChangeOfBest, IsDifferenceKnown, IsPassedInRound, better_with, bound_of, end_with, move_of}
use Rattle.vr_tabu.specs.Rounds.{tabu_round_end, tries_of}
use Rattle.vr_tabu.specs.TabuSearches.{TabuList, is_candidate, least_candidate, round_of, round_with}
use Rattle.vr_tabu.specs.TabuSearches.TabuRound.{Cut}
use Rattle.vr_tabu.specs.declared.rounds.Candidate.{Candidate}
use Rattle.vr_tabu.specs.declared.rounds.RoundEnd.TheVariants as code
use Rattle.vr_tabu.proofs.CandidateLemmas.{dearer}

-- ---- the best of the moves that are left and the best so far

fold_one : {A B : Type 0} (f : B → A → B) (b : B) (x : A) (xs : List A) (c : Bool) → fold f b (cond c (x ∷ xs) xs) ≡ fold f (cond c (f b x) b) xs
fold_one f b x xs true = refl
fold_one f b x xs false = refl

module _ (model : Model) (tabus : TabuList) (best lists : List (List ℕ)) where
  abbrev choose : Option Move → Move → Option Move
  choose = better (λ mv. cost model (apply model lists mv) ∷ [])

  abbrev test : Move → Bool
  test = is_candidate model tabus best lists

  -- the best of a list of moves and of one that was found
  abbrev pub best_of : Option Move → List Move → Option Move
  best_of found ms = fold choose found (filter test ms)

  -- one move more was tried
  pub one_tried : (found next : Option Candidate) (mv : Move) (ms rest : List Move)
      → ms ≡ mv ∷ rest → move_of next ≡ better_with model tabus best lists (move_of found) mv
      → best_of (move_of found) ms ≡ least_candidate model tabus best lists → best_of (move_of next) rest ≡ least_candidate model tabus best lists
  one_tried found next mv ms rest split tried left =
      ap (λ m. best_of m rest) tried
      ∙ (sym (fold_one choose (move_of found) mv (filter test rest) (test mv)) ∙ (ap (best_of (move_of found)) (sym split) ∙ left))

  -- there are more moves than tries
  pub cut_off : (n rest : ℕ) → rest < n → n ≤ length (moves model lists) → code.Cut ≡ tabu_round_end model lists (round_of model tabus best lists rest)
  cut_off n rest more all =
      sym (ap (λ b. tabu_round_end model lists (cond b Cut (round_with (length (moves model lists)) (least_candidate model tabus best lists))))
      (over (length (moves model lists)) all))
    where
      over : (all : ℕ) → n ≤ all → nat_lt rest all ≡ true
      over all h = Prim.grind arith

  -- moves that are no better change nothing
  pub none_better : (found : Option Candidate) (ceiling : Option ℤ) (ps ms : List Move)
      → IfSome found (IsDifferenceKnown model lists) → IsCeiling model tabus best lists ceiling
      → All (IsPassedInRound model lists (bound_of found ceiling)) ps → list_all (is_move model lists) (ps ++ ms) ≡ true
      → best_of (move_of found) (ps ++ ms) ≡ best_of (move_of found) ms
  none_better found ceiling [] ms known low passed are = refl
  none_better found ceiling (p ∷ ps) ms known low passed are =
      fold_one choose (move_of found) p (filter test (ps ++ ms)) (test p)
      ∙ (ap (λ m. best_of m (ps ++ ms)) (sym (dearer model tabus best lists found ceiling p known low
      (All-head (IsPassedInRound model lists (bound_of found ceiling)) p ps passed (and_left (is_move model lists p) _ are))))
      ∙ none_better found ceiling ps ms known low
      (All-tail (IsPassedInRound model lists (bound_of found ceiling)) p ps passed) (and_right (is_move model lists p) _ are))

  -- what is left of the moves behind those that were passed over
  pub record IsLeft (found : Option Candidate) (n : ℕ) (behind : List Move) (counted : ℕ) : Type 0 where
    pub at : ℕ
    pub counts : counted ≡ capped at
    pub from : n ≤ at
    pub sum : at + length behind ≡ length (moves model lists)
    pub moves : list_all (is_move model lists) behind ≡ true
    pub left : best_of (move_of found) behind ≡ least_candidate model tabus best lists

  pub pass_over : (found : Option Candidate) (ceiling : Option ℤ) (old behind : List Move) (n counted : ℕ) → IfSome found (IsDifferenceKnown model lists)
      → IsCeiling model tabus best lists ceiling → Passes (IsPassedInRound model lists (bound_of found ceiling)) old n behind counted
      → n + length old ≡ length (moves model lists) → list_all (is_move model lists) old ≡ true
      → best_of (move_of found) old ≡ least_candidate model tabus best lists → IsLeft found n behind counted
  pass_over found ceiling old behind n counted known low p sum are left =
      let split_are : list_all (is_move model lists) (p.passed ++ behind) ≡ true = ap (list_all (is_move model lists)) (sym p.split) ∙ are in
      let long : length old ≡ length p.passed + length behind = ap length p.split ∙ length-append p.passed behind in
      record {
        at = n + length p.passed;
        counts = p.counts;
        from = omega arith;
        sum = added n (length old) (length p.passed) (length behind) (length (moves model lists)) long sum;
        moves = all_right (is_move model lists) p.passed behind split_are;
        left = sym (none_better found ceiling p.passed behind known low p.covered split_are) ∙ (ap (best_of (move_of found)) (sym p.split) ∙ left);
      }
    where
      added : (n old passed behind all : ℕ) → old ≡ passed + behind → n + old ≡ all → (n + passed) + behind ≡ all
      added n old passed behind all e f = omega (arith, e, f)

  with_known : (n : ℕ) (found : Option Candidate) → IfSome found (IsDifferenceKnown model lists)
      → end_with n found ≡ tabu_round_end model lists (round_with n (move_of found))
  with_known n None known = refl
  with_known n (Some c) known = ap (λ d. code.Best n (record { mv = c.mv; difference = d })) known

  -- no move is left
  pub all_tried : (n rest : ℕ) (found : Option Candidate) (ms : List Move) → ms ≡ []
      → n + length ms ≡ length (moves model lists) → n ≤ rest → IfSome found (IsDifferenceKnown model lists)
      → best_of (move_of found) ms ≡ least_candidate model tabus best lists
      → end_with n found ≡ tabu_round_end model lists (round_of model tabus best lists rest)
  all_tried n rest found ms none counted low known left =
      with_known n found known ∙ (ap₂ (λ k m. tabu_round_end model lists (round_with k m)) same (ap (best_of (move_of found)) (sym none) ∙ left)
      ∙ sym (ap (λ b. tabu_round_end model lists (cond b Cut (round_with (length (moves model lists)) (least_candidate model tabus best lists))))
      (within n rest (length (moves model lists)) same low)))
    where
      no_more : (a b : ℕ) → a ≡ b + 0 → a ≡ b
      no_more a b e = omega (arith, e)

      same : n ≡ length (moves model lists)
      same = sym (no_more (length (moves model lists)) n (sym counted ∙ ap (λ l. n + length l) none))

      within : (n rest all : ℕ) → n ≡ all → n ≤ rest → nat_lt rest all ≡ false
      within n rest all e low = Prim.grind arith

-- the tries of a round that came to the end of its list
pub tries_end : (rest n : ℕ) (found : Option Candidate) → tries_of rest (end_with n found) ≡ n
tries_end rest n None = refl
tries_end rest n (Some c) = refl

-- what the best candidate changes is known where a round ends with one
pub change_at_end : (model : Model) (lists : List (List ℕ)) (change : List ListAfter) (n : ℕ) (found : Option Candidate)
    → IfSome found (IsChangeOf model lists change)
    → IsChangeOfBest model lists (end_with n found) change
change_at_end model lists change n None h = tt
change_at_end model lists change n (Some c) h = h

-- one move more was counted
pub one_more : (n left all : ℕ) → n + suc left ≡ all → (n + 1) + left ≡ all
one_more n left all e = omega (arith, e)

-- ---- counts of few moves are exact

pub exact : (n : ℕ) → capped n ≤ 1000000000 → capped n ≡ n
exact n low = Prim.grind arith

pub at_most : (n : ℕ) → capped n ≤ n
at_most n = Prim.grind arith
