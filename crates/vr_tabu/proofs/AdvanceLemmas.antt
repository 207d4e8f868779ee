-- What a round in code makes of where tabu search stands.
use Rattle.std.proofs.Common.{◌≡◌, ◌∙◌, ℕ, ◌+◌, ◌-◌, ◌≤◌, false, List, refl, sym, ap, ap₂, arith}
use Rattle.std.specs.Prelude.{◌==◌}
use Rattle.vr_model.specs.moves.Moves.{apply}
use Rattle.vr_model.specs.search.Outcomes.{Outcome, cheaper, ended}
use Rattle.vr_model.specs.declared.records.Model.{Model}
use Rattle.vr_model.specs.declared.records.End.TheVariants.{Optimum, Tries}
use Rattle.vr_model.specs.declared.search.Event.{Event}
use Rattle.vr_model.specs.declared.neighbours.Move.{Move}
use Rattle.vr_descent.specs.Searching.{after_move, behind, standing}
use Rattle.vr_descent.specs.declared.progress.Progress.{Progress}
use Rattle.vr_routes.specs.Judging.{cost_change}
use Rattle.vr_tabu.specs.Rounds.{IsDifferenceKnown, tabu_round_end, with_difference}
use Rattle.vr_tabu.specs.Standing.{events_of, tabu_from_here, tabu_from_state, next_events, next_of}
use Rattle.vr_tabu.specs.TabuSearches.{TabuList, TabuRound, next_round}
use Rattle.vr_tabu.specs.TabuSearches.TabuRound.{Best, Stuck, Cut}
use Rattle.vr_tabu.specs.Tabus.{tabus_of}
use Rattle.vr_tabu.specs.declared.rounds.Candidate.{Candidate}
use Rattle.vr_tabu.specs.declared.rounds.RoundEnd.TheVariants as code
use Rattle.vr_tabu.specs.declared.searching.Parameters.{Parameters}
use Rattle.vr_tabu.specs.declared.searching.State.{State}
use Rattle.vr_tabu.proofs.SearchLemmas.{left_after, on_round}

-- ---- the round that an end tells

module _ (model : Model) (lists : List (List ℕ)) where
  pub of_best : (r : TabuRound) (k : ℕ) (c : Candidate) → code.Best k c ≡ tabu_round_end model lists r → (r ≡ Best k c.mv) × IsDifferenceKnown model lists c
  of_best (Best n mv) k c e = let same = parts k n c (with_difference model lists mv) e in
      let same_move = ap (λ (d : Candidate). d.mv) same.1 in
      (ap₂ (λ m step. Best m step) (sym same.0) (sym same_move), ap (λ (d : Candidate). d.difference) same.1 ∙ ap (cost_change model lists) (sym same_move))
    where
      parts : (k n : ℕ) (c d : Candidate) → code.Best k c ≡ code.Best n d → (k ≡ n) × (c ≡ d)
      parts k n c d e = (Prim.cc, Prim.cc)
  of_best (Stuck n) k c e = absurd (differ e)
    where
      differ : code.Best k c ≡ code.Stuck n → ⊥
      differ e = Prim.cc
  of_best Cut k c e = absurd (differ e)
    where
      differ : code.Best k c ≡ code.Cut → ⊥
      differ e = Prim.cc

  pub of_stuck : (r : TabuRound) (k : ℕ) → code.Stuck k ≡ tabu_round_end model lists r → r ≡ Stuck k
  of_stuck (Best n mv) k e = absurd (differ (with_difference model lists mv) e)
    where
      differ : (c : Candidate) → code.Stuck k ≡ code.Best n c → ⊥
      differ c e = Prim.cc
  of_stuck (Stuck n) k e = Prim.cc
  of_stuck Cut k e = absurd (differ e)
    where
      differ : code.Stuck k ≡ code.Cut → ⊥
      differ e = Prim.cc

  pub of_cut : (r : TabuRound) → code.Cut ≡ tabu_round_end model lists r → r ≡ Cut
  of_cut (Best n mv) e = absurd (differ (with_difference model lists mv) e)
    where
      differ : (c : Candidate) → code.Cut ≡ code.Best n c → ⊥
      differ c e = Prim.cc
  of_cut (Stuck n) e = absurd (differ e)
    where
      differ : code.Cut ≡ code.Stuck n → ⊥
      differ e = Prim.cc
  of_cut Cut e = refl

-- ---- the search is what a round tells, and what is left after it

module _ (model : Model) (parameters : Parameters) (lists : List (List ℕ)) (state : State) where
  abbrev here : Outcome
  here = tabu_from_state model parameters lists state

  abbrev events : TabuRound → List Event
  events r = events_of model (standing lists state.best.routes.lists state.at.used state.at.found) r

  abbrev left : TabuRound → Outcome
  left r = left_after model parameters (tabus_of state.tabus) lists state.best.routes.lists state.at.used state.at.found r

  -- the events of the round in hand
  pub events_are : (r : TabuRound) → next_of model parameters lists state ≡ r → events r ≡ next_events model parameters lists state
  events_are r h = ap events (sym h)

  goes : (state.at.found == parameters.limit.solutions) ≡ false → (r : TabuRound)
      → next_of model parameters lists state ≡ r → here ≡ behind (next_events model parameters lists state) (left r)
  goes more r h = on_round model parameters (tabus_of state.tabus) lists state.best.routes.lists state.at.used state.at.found more r h
      ∙ ap (λ es. behind es (left r)) (events_are r h)

  -- what is left after the round in hand
  abbrev pub left_behind : Outcome
  left_behind = left (next_of model parameters lists state)

  -- the search is the events of the round in hand, and what is left after it
  pub on_next : (state.at.found == parameters.limit.solutions) ≡ false → here ≡ behind (next_events model parameters lists state) left_behind
  on_next more = goes more (next_of model parameters lists state) refl

  -- the best candidate was made
  pub after_best : (state.at.found == parameters.limit.solutions) ≡ false → (k : ℕ) (mv : Move)
      → next_of model parameters lists state ≡ Best k mv → (new : State) (after : List (List ℕ))
      → tabus_of new.tabus ≡ next_round model parameters.tenure lists (apply model lists mv) (tabus_of state.tabus) → after ≡ apply model lists mv
      → new.best.routes.lists ≡ cheaper model state.best.routes.lists (apply model lists mv) → new.at ≡ after_move model lists mv k state.at
      → here ≡ behind (next_events model parameters lists state) (tabu_from_state model parameters after new)
  after_best more k mv h new after same_tabus same_lists same_best same_at = goes more (Best k mv) h
      ∙ ap (behind (next_events model parameters lists state))
      (sym (ap (λ t. tabu_from_here model parameters t after new.best.routes.lists new.at.used new.at.found) same_tabus
      ∙ (ap (λ l. tabu_from_here model parameters next l new.best.routes.lists new.at.used new.at.found) same_lists
      ∙ (ap (λ b. tabu_from_here model parameters next (apply model lists mv) b new.at.used new.at.found) same_best
      ∙ ap (λ (p : Progress). tabu_from_here model parameters next (apply model lists mv)
      (cheaper model state.best.routes.lists (apply model lists mv)) p.used p.found) same_at))))
    where
      next : TabuList
      next = next_round model parameters.tenure lists (apply model lists mv) (tabus_of state.tabus)

  -- no move may be made
  pub after_stuck : (state.at.found == parameters.limit.solutions) ≡ false → (k : ℕ) → next_of model parameters lists state ≡ Stuck k
      → here ≡ behind (next_events model parameters lists state) (ended (standing lists state.best.routes.lists (state.at.used + k) state.at.found) Optimum)
  after_stuck more k h = goes more (Stuck k) h

  -- the tries ran out
  pub after_cut : (state.at.found == parameters.limit.solutions) ≡ false → next_of model parameters lists state ≡ Cut → state.at.used ≤ parameters.limit.tries
      → here ≡ behind (next_events model parameters lists state) (ended (standing lists state.best.routes.lists parameters.limit.tries state.at.found) Tries)
  after_cut more h low = goes more Cut h
      ∙ ap (λ k. behind (next_events model parameters lists state) (ended (standing lists state.best.routes.lists k state.at.found) Tries))
      (all parameters.limit.tries state.at.used low)
    where
      all : (tries used : ℕ) → used ≤ tries → used + (tries - used) ≡ tries
      all tries used low = omega (arith, low)
