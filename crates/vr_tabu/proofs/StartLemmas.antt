-- How tabu search begins: what is left behind its first event is the search from there.
use Rattle.std.proofs.Common.{◌≡◌, ◌∙◌, ℕ, ◌≤◌, List, ap, arith}
use Rattle.vr_model.specs.search.Outcomes.{Outcome}
use Rattle.vr_model.specs.declared.records.Model.{Model}
use Rattle.vr_routes.specs.Judging.{HasCommitted}
use Rattle.vr_routes.specs.Tours.{Tours}
use Rattle.vr_descent.proofs.Beginnings.{at_first, under_way}
use Rattle.vr_tabu.specs.Standing.{IsTabuBegun, TabuStands, tabu_from_here, tabu_from_state}
use Rattle.vr_tabu.specs.TabuSearches.{none_tabu}
use Rattle.vr_tabu.specs.declared.searching.Parameters.{Parameters}
use Rattle.vr_tabu.specs.declared.searching.State.{State}

module _ (model : Model) (parameters : Parameters) (lists : List (List ℕ)) where
  -- what is left of the search behind its first event
  abbrev pub rest : Outcome
  rest = tabu_from_here model parameters none_tabu lists lists 0 1

-- a state that begins stands where the search begins
module _ (model : Model) (parameters : Parameters) (routes : Tours) (state : State)
    (begins : IsTabuBegun model routes (at_first model routes.lists) state) where
  pub begun_stands : (committed : Tours → Type 0) → HasCommitted model committed routes
      → 1 ≤ parameters.limit.solutions → TabuStands model parameters committed routes state
  begun_stands committed holds some =
      let found = ap (λ p. p.found) begins.at_is in
      let round = ap (λ t. t.round) begins.none in
      record {
        going = under_way model parameters.limit routes state.at state.best committed begins.at_is begins.best_is holds some;
        round = omega (arith, found, round);
        covers = begins.covers;
      }

  -- what is left from there is what is left behind the first event
  pub rest_is : tabu_from_state model parameters routes.lists state ≡ rest model parameters routes.lists
  rest_is =
      ap (λ t. tabu_from_here model parameters t routes.lists state.best.routes.lists state.at.used state.at.found) begins.none
      ∙ (ap (λ b. tabu_from_here model parameters none_tabu routes.lists b.routes.lists state.at.used state.at.found) begins.best_is
      ∙ ap (λ p. tabu_from_here model parameters none_tabu routes.lists routes.lists p.used p.found) begins.at_is)
