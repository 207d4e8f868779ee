-- Tabu search: in each round the best of the moves that may be made is made, even if it costs more. The visits that it
-- changes are tabu for some rounds, so that no move of them alone leads back.
use Rattle.std.specs.Prelude.{ℕ, zero, suc, ◌+◌, ◌-◌, Bool, true, false, cond, not, ◌&&◌, ◌||◌, ◌==◌, nat_lt}
use Rattle.std.specs.Prelude.{List, [], ◌∷◌, length, filter, Option, Some, None, int_lt}
use Rattle.std.specs.List.{list_all}
use Rattle.vr_model.specs.first.Choosing.{least_by}
use Rattle.vr_model.specs.moves.Moves.{apply, moves}
use Rattle.vr_model.specs.routes.Rules.{is_valid}
use Rattle.vr_model.specs.routes.Costs.{cost}
use Rattle.vr_model.specs.search.Outcomes.{SearchState, Outcome, tried, accepted, ended, event_at, with_event}
use Rattle.vr_model.specs.search.Outcomes.{from_first}
use Rattle.vr_model.specs.declared.records.Model.{Model}
use Rattle.vr_model.specs.declared.records.End.TheVariants.{Optimum, Tries, Solutions}
use Rattle.vr_model.specs.declared.search.Limit.{Limit}
use Rattle.vr_model.specs.declared.search.Kind.TheVariants as kind
use Rattle.vr_model.specs.declared.neighbours.Move.{Move}
use Rattle.vr_tabu.specs.Changed.{changed_visits, is_changed}

-- the number of the round, from 0, and the round before which each visit is tabu
pub record TabuList : Type 0 where
  pub round : ℕ
  pub until : ℕ → ℕ

-- in the first round no visit is tabu
abbrev pub none_tabu : TabuList
none_tabu = record { round = 0; until = λ visit. 0 }

-- a visit is tabu in this round
abbrev pub is_tabu_visit : TabuList → ℕ → Bool
is_tabu_visit tabus visit = nat_lt tabus.round (tabus.until visit)

-- to go from lists to others is tabu if each visit that is changed is tabu
unfoldable pub is_tabu : Model → TabuList → List (List ℕ) → List (List ℕ) → Bool
is_tabu model tabus old new = list_all (is_tabu_visit tabus) (changed_visits model old new)

-- the next round: each visit that was changed is tabu for `tenure` rounds from then on. With tenure 10, a visit that
-- round 5 changed is tabu in the rounds 6 to 15.
abbrev pub next_round : Model → ℕ → List (List ℕ) → List (List ℕ) → TabuList → TabuList
next_round model tenure old new tabus = record {
  round = suc tabus.round;
  until = λ visit. cond (is_changed model old new visit) (suc tabus.round + tenure) (tabus.until visit);
}

-- a move of lists is a candidate if the lists after it are valid, and one of two things holds. It is not tabu, or they
-- cost less than the best lists so far.
abbrev pub is_candidate : Model → TabuList → List (List ℕ) → List (List ℕ) → Move → Bool
is_candidate model tabus best lists mv = let after = apply model lists mv in
    is_valid model after && (not (is_tabu model tabus lists after) || int_lt (cost model after) (cost model best))

-- the candidate of the least cost after it, the first of equal ones
abbrev pub least_candidate : Model → TabuList → List (List ℕ) → List (List ℕ) → Option Move
least_candidate model tabus best lists =
    least_by (λ mv. cost model (apply model lists mv) ∷ [])
    (filter (is_candidate model tabus best lists) (moves model lists))

-- how a round ends. It is Best with the number of moves and their least candidate. It is Stuck with the number of moves
-- if there is no candidate, and Cut for want of tries.
pub data TabuRound : Type 0 where
  Best : ℕ → Move → TabuRound
  Stuck : ℕ → TabuRound
  Cut : TabuRound

-- the round of this many moves with this least candidate
abbrev pub round_with : ℕ → Option Move → TabuRound
round_with n None = Stuck n
round_with n (Some mv) = Best n mv

-- a round of lists in which at most `rest` moves may be tried
abbrev pub round_of : Model → TabuList → List (List ℕ) → List (List ℕ) → ℕ → TabuRound
round_of model tabus best lists rest = let n = length (moves model lists) in
    cond (nat_lt rest n) Cut (round_with n (least_candidate model tabus best lists))

-- how the search goes on after a round: from the lists after its move, or it ends
abbrev pub tabu_on : Model → Limit → ℕ → (TabuList → SearchState → Outcome) → TabuList → SearchState → TabuRound
    → Outcome
tabu_on model limit tenure again tabus state (Best n mv) = let next = accepted model state n mv in
    with_event (event_at model next kind.Move) (again (next_round model tenure state.lists next.lists tabus) next)
tabu_on model limit tenure again tabus state (Stuck n) = ended (tried state n) Optimum
tabu_on model limit tenure again tabus state Cut = ended (tried state (limit.tries - state.used)) Tries

-- Tabu search from the state of a search, by at most this many rounds. Each round that does not end the search uses a
-- try. So with one round more than there are tries left the bound is never met.
unfoldable pub tabu_from : Model → Limit → ℕ → ℕ → TabuList → SearchState → Outcome
tabu_from model limit tenure zero tabus state = ended state Tries
tabu_from model limit tenure (suc rounds) tabus state = elim (state.found == limit.solutions) [
  | true ↦ ended state Solutions
  | false ↦ tabu_on model limit tenure (tabu_from model limit tenure rounds) tabus state
      (round_of model tabus state.best state.lists (limit.tries - state.used))
]

-- tabu search from lists, by which visits are tabu for `tenure` rounds
unfoldable pub tabu_search : Model → List (List ℕ) → Limit → ℕ → Outcome
tabu_search model lists limit tenure = from_first model lists (tabu_from model limit tenure (suc limit.tries) none_tabu)
