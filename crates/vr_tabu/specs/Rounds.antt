-- What a round in code has found so far, and how it ends.
use Rattle.std.specs.Prelude.{◌≡◌, ℕ, ℤ, ◌-ℤ◌, int_le, Bool, false, cond, List, [], ◌∷◌}
use Rattle.std.specs.Prelude.{Option, Some, None, IsTrue}
use Rattle.vr_model.specs.first.Choosing.{better}
use Rattle.vr_model.specs.moves.Moves.{apply}
use Rattle.vr_model.specs.moves.MoveTests.{is_move}
use Rattle.vr_model.specs.routes.Rules.{is_valid}
use Rattle.vr_model.specs.routes.Costs.{cost}
use Rattle.vr_model.specs.tables.WellFormed.{IsWellFormed}
use Rattle.vr_model.specs.declared.records.Model.{Model}
use Rattle.vr_model.specs.declared.neighbours.Move.{Move}
use Rattle.vr_routes.specs.Changes.{IsChange}
use Rattle.vr_routes.specs.Judging.{HasCommitted, cost_change}
use Rattle.vr_routes.specs.Pieces.{ListAfter}
use Rattle.vr_routes.specs.Tours.{Tours}
use Rattle.vr_tabu.specs.TabuSearches.{TabuRound, TabuList, is_candidate}
use Rattle.vr_tabu.specs.TabuSearches.TabuRound.{Best, Stuck, Cut}
use Rattle.vr_tabu.specs.declared.rounds.Candidate.{Candidate}
use Rattle.vr_tabu.specs.declared.rounds.RoundEnd.{RoundEnd}
use Rattle.vr_tabu.specs.declared.rounds.RoundEnd.TheVariants as code

-- the move of a candidate, if there is one
abbrev pub move_of : Option Candidate → Option Move
move_of None = None
move_of (Some candidate) = Some candidate.mv

-- what a candidate makes of the cost is known
abbrev pub IsDifferenceKnown : Model → List (List ℕ) → Candidate → Type 0
IsDifferenceKnown model lists candidate = candidate.difference ≡ cost_change model lists candidate.mv

-- this is what a candidate changes
abbrev pub IsChangeOf : Model → List (List ℕ) → List ListAfter → Candidate → Type 0
IsChangeOf model lists change candidate = IsChange model lists candidate.mv change

-- the difference of a better candidate than the best so far is below this. It is the difference of the best so far,
-- else a ceiling, if that is known.
abbrev pub bound_of : Option Candidate → Option ℤ → Option ℤ
bound_of None ceiling = ceiling
bound_of (Some best) ceiling = Some best.difference

-- a difference is not below a bound
abbrev pub is_no_less : Option ℤ → ℤ → Bool
is_no_less None least = false
is_no_less (Some bound) least = int_le bound least

-- moves that make a lesser difference than this lead to lists that cost less than the best so far
abbrev pub aspiration : Model → List (List ℕ) → List (List ℕ) → ℤ
aspiration model best lists = cost model best -ℤ cost model lists

-- a move makes no difference below a bound, if the lists after it are valid
abbrev pub IsNoBetter : Model → List (List ℕ) → Move → Option ℤ → Type 0
IsNoBetter model lists mv bound =
    IsTrue (is_valid model (apply model lists mv)) → IsTrue (is_no_less bound (cost_change model lists mv))

-- what a round passes over: a move that makes no difference below a bound, if it is a move of the lists
abbrev pub IsPassedInRound : Model → List (List ℕ) → Option ℤ → Move → Type 0
IsPassedInRound model lists bound mv = IsTrue (is_move model lists mv) → IsNoBetter model lists mv bound

-- a move that makes no difference below a ceiling is no candidate
abbrev pub IsCeiling : Model → TabuList → List (List ℕ) → List (List ℕ) → Option ℤ → Type 0
IsCeiling model tabus best lists ceiling =
    (mv : Move) → IsTrue (is_no_less ceiling (cost_change model lists mv))
    → is_candidate model tabus best lists mv ≡ false

-- a judge is one of this model, and has committed the lists of routes
pub record IsJudgeOf (model : Model) (routes : Tours) (judged : Model) (stands_at : Tours → Type 0) : Type 0 where
  pub model_is : judged ≡ model
  pub committed : stands_at routes

-- a judge of this model that has committed the lists of routes can be asked about moves of theirs
pub record CanPass (model : Model) (routes : Tours) (judged : Model) (committed : Tours → Type 0) : Type 0 where
  pub well_formed : IsWellFormed model
  pub judge_model : judged ≡ model
  pub holds : HasCommitted model committed routes

-- the better of the best candidate so far and a move, if that is a candidate
abbrev pub better_with : Model → TabuList → List (List ℕ) → List (List ℕ) → Option Move → Move → Option Move
better_with model tabus best lists found mv =
    cond (is_candidate model tabus best lists mv)
    (better (λ move. cost model (apply model lists move) ∷ []) found mv) found

-- a move with the difference that it makes
abbrev pub with_difference : Model → List (List ℕ) → Move → Candidate
with_difference model lists mv = record { mv = mv; difference = cost_change model lists mv }

-- the end of a round, with the difference of its move
abbrev pub tabu_round_end : Model → List (List ℕ) → TabuRound → RoundEnd
tabu_round_end model lists (Best n mv) = code.Best n (with_difference model lists mv)
tabu_round_end model lists (Stuck n) = code.Stuck n
tabu_round_end model lists Cut = code.Cut

-- the end of a round of this many moves, with the best candidate in code
abbrev pub end_with : ℕ → Option Candidate → RoundEnd
end_with n None = code.Stuck n
end_with n (Some candidate) = code.Best n candidate

-- if a round ends with a best candidate, this is what its move changes
abbrev pub IsChangeOfBest : Model → List (List ℕ) → RoundEnd → List ListAfter → Type 0
IsChangeOfBest model lists (code.Best n candidate) change = IsChangeOf model lists change candidate
IsChangeOfBest model lists (code.Stuck n) change = Unit {0}
IsChangeOfBest model lists code.Cut change = Unit {0}

-- how many moves were tried in a round that could try `rest` moves
abbrev pub tries_of : ℕ → RoundEnd → ℕ
tries_of rest (code.Best n candidate) = n
tries_of rest (code.Stuck n) = n
tries_of rest code.Cut = rest
