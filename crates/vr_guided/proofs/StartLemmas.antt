-- How guided local search begins: what is left behind its first event is the search from there.
use Rattle.std.proofs.Common.{◌≡◌, ◌∙◌, ℕ, ◌≤◌, List, sym, ap, subst}
use Rattle.vr_model.specs.search.GuidedSearches.{no_penalties}
use Rattle.vr_model.specs.search.Outcomes.{Outcome}
use Rattle.vr_model.specs.declared.records.Model.{Model}
use Rattle.vr_model.specs.declared.search.Lambda.{Lambda}
use Rattle.vr_model.specs.declared.search.Limit.{Limit}
use Rattle.vr_routes.specs.Judging.{HasCommitted}
use Rattle.vr_routes.specs.Tours.{Tours}
use Rattle.vr_descent.proofs.Beginnings.{at_first, under_way}
use Rattle.vr_guided.specs.Counts.{AtMost}
use Rattle.vr_guided.specs.Standing.{IsGuidedBegun, GuidedStands, guided_from_here, guided_from_state}
use Rattle.vr_guided.specs.declared.searching.State.{State}
use Rattle.vr_guided.proofs.GuidedLemmas.{none_at_first}

module _ (model : Model) (limit : Limit) (lambda : Lambda) (lists : List (List ℕ)) where
  -- what is left of the search behind its first event
  abbrev pub rest : Outcome
  rest = guided_from_here model limit lambda no_penalties lists lists 0 1

-- a state that begins stands where the search begins
module _ (model : Model) (limit : Limit) (routes : Tours) (state : State) (begins : IsGuidedBegun model routes (at_first model routes.lists) state) where
  pub begun_stands : (committed : Tours → Type 0) → HasCommitted model committed routes → 1 ≤ limit.solutions → GuidedStands model limit committed routes state
  begun_stands committed holds some =
      let used = ap (λ p. p.used) begins.at_is in
      record {
        going = under_way model limit routes state.at state.best committed begins.at_is begins.best_is holds some;
        few = subst (λ p. AtMost state.at.used p) (sym begins.none) (subst (λ k. AtMost k no_penalties) (sym used) none_at_first);
        covers = begins.covers;
        route_sums = begins.route_sums;
      }

  -- what is left from there is what is left behind the first event
  pub rest_is : (lambda : Lambda) → guided_from_state model limit lambda routes.lists state ≡ rest model limit lambda routes.lists
  rest_is lambda =
      ap (λ p. guided_from_here model limit lambda p routes.lists state.best.routes.lists state.at.used state.at.found) begins.none
      ∙ (ap (λ b. guided_from_here model limit lambda no_penalties routes.lists b.routes.lists state.at.used state.at.found) begins.best_is
      ∙ ap (λ p. guided_from_here model limit lambda no_penalties routes.lists routes.lists p.used p.found) begins.at_is)
