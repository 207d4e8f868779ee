-- The state of guided search in code.
use Rattle.std.specs.Prelude.{◌≡◌, ℕ, suc, ◌-◌, ◌≤◌, List, length, pos, ◌≤ℤ◌}
use Rattle.vr_model.specs.search.Outcomes.{Outcome}
use Rattle.vr_model.specs.search.GuidedSearches.{Penalties, guided_from, no_penalties}
use Rattle.vr_model.specs.declared.records.Model.{Model}
use Rattle.vr_model.specs.declared.search.Limit.{Limit}
use Rattle.vr_model.specs.declared.search.Lambda.{Lambda}
use Rattle.vr_descent.specs.Incumbents.{IsUnderWay}
use Rattle.vr_descent.specs.Searching.{standing}
use Rattle.vr_descent.specs.declared.progress.Progress.{Progress}
use Rattle.vr_routes.specs.Tours.{Tours}
use Rattle.vr_guided.specs.Counts.{AtMost, counted}
use Rattle.vr_guided.specs.declared.searching.State.{State}

-- the parameters of a search are in their ranges
pub record AreParameters (limit : Limit) (lambda : Lambda) : Type 0 where
  pub tries : limit.tries ≤ 1000000000
  pub solutions : limit.solutions ≤ 1000000000
  pub p_from_one : pos 1 ≤ℤ lambda.p
  pub p_to_1000 : lambda.p ≤ℤ pos 1000
  pub q_from_one : pos 1 ≤ℤ lambda.q
  pub q_to_1000 : lambda.q ≤ℤ pos 1000

-- what guided search begins with: these routes are the best, and they cost what is known at the state. No arc was
-- penalised, each arc has a count, and each vehicle has sums
pub record IsGuidedBegun (model : Model) (routes : Tours) (at : Progress) (state : State) : Type 0 where
  pub at_is : state.at ≡ at
  pub best_is : state.best ≡ record { routes = routes; cost = at.cost }
  pub none : counted state.penalties ≡ no_penalties
  pub covers : state.penalties.nodes ≡ model.nodes
  pub route_sums : length state.route_sums ≡ length model.vehicles

-- the search is under way, and no arc was penalised more often than a move was tried. Each arc has a count, and each
-- vehicle has sums
pub record GuidedStands (model : Model) (limit : Limit) (committed : Tours → Type 0) (routes : Tours) (state : State) :
    Type 0 where
  pub going : IsUnderWay model limit committed routes state.at state.best
  pub few : AtMost state.at.used (counted state.penalties)
  pub covers : state.penalties.nodes ≡ model.nodes
  pub route_sums : length state.route_sums ≡ length model.vehicles

-- guided search from there, by one scan more than there are tries left
abbrev pub guided_from_here : Model → Limit → Lambda → Penalties → List (List ℕ) → List (List ℕ) → ℕ → ℕ → Outcome
guided_from_here model limit lambda penalties lists best used found =
    guided_from model limit lambda (suc (limit.tries - used)) penalties (standing lists best used found)

-- the same from the state of the code
abbrev pub guided_from_state : Model → Limit → Lambda → List (List ℕ) → State → Outcome
guided_from_state model limit lambda lists state =
    guided_from_here model limit lambda (counted state.penalties) lists state.best.routes.lists state.at.used
    state.at.found
