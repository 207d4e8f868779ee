-- Tabu search keeps to its limit, and its lists stay valid.
use Rattle.std.proofs.Common.{◌≡◌, ℕ, suc, ◌-◌, false, List, refl, arith}
use Rattle.std.specs.Prelude.{◌==◌}
use Rattle.vr_model.specs.moves.Moves.{apply}
use Rattle.vr_model.specs.search.Outcomes.{SearchState, accepted, begun, tried}
use Rattle.vr_model.specs.declared.records.Model.{Model}
use Rattle.vr_model.specs.declared.search.Limit.{Limit}
use Rattle.vr_descent.specs.Answering.{IsSoundAnswer}
use Rattle.vr_descent.proofs.AnswerLemmas.{IsSoundState, SoundBy, sound_accepted, sound_by_rounds, sound_end, sound_start, sound_told, sound_tried}
use Rattle.vr_tabu.specs.Answering.{TabuIsSound}
use Rattle.vr_tabu.specs.TabuSearches.{TabuList, TabuRound, next_round, none_tabu, round_of, tabu_from, tabu_on, tabu_search}
use Rattle.vr_tabu.specs.TabuSearches.TabuRound.{Best, Stuck, Cut}
use Rattle.vr_tabu.proofs.SearchLemmas.{best_where, stuck_where}

module _ (model : Model) (first : List (List ℕ)) (limit : Limit) (tenure : ℕ) where
  -- by at most so many rounds more, whichever visits are tabu
  abbrev IsSoundBy : ℕ → Type 0
  IsSoundBy = SoundBy model first limit (tabu_from model limit tenure)

  goes_on : (rounds : ℕ) (tabus : TabuList) (state : SearchState)
      → IsSoundState model first limit state → (state.found == limit.solutions) ≡ false → IsSoundBy rounds
      → (r : TabuRound) → round_of model tabus state.best state.lists (limit.tries - state.used) ≡ r
      → IsSoundAnswer model first limit (tabu_on model limit tenure (tabu_from model limit tenure rounds) tabus state r)
  goes_on rounds tabus state sound more again (Best n mv) h =
      let known = best_where model tabus state.best state.lists (limit.tries - state.used) n mv h in
      sound_told model first limit _ _
      (again (next_round model tenure state.lists (apply model state.lists mv) tabus) (accepted model state n mv)
      (sound_accepted model first limit state n mv sound known.within more known.valid))
  goes_on rounds tabus state sound more again (Stuck n) h =
      sound_end model first limit (tried state n) _
      (sound_tried model first limit state n sound (stuck_where model tabus state.best state.lists (limit.tries - state.used) n h))
  goes_on rounds tabus state sound more again Cut h =
      sound_end model first limit (tried state (limit.tries - state.used)) _
      (sound_tried model first limit state (limit.tries - state.used) sound (omega arith))

  sound_from : (rounds : ℕ) → IsSoundBy rounds
  unfolding tabu_from
  sound_from = sound_by_rounds model first limit (tabu_from model limit tenure)
      (λ tabus state sound. sound_end model first limit state _ sound)
      (λ rounds tabus state sound e. rw (e, tabu_from) (sound_end model first limit state _ sound))
      (λ rounds tabus state sound e again. rw (e, tabu_from) (goes_on rounds tabus state sound e again _ refl))

pub tabu_is_sound : TabuIsSound
unfolding tabu_search
tabu_is_sound model lists limit tenure valid some =
    sound_told model lists limit _ _ (sound_from model lists limit tenure (suc limit.tries) none_tabu (begun lists) (sound_start model lists limit valid some))
