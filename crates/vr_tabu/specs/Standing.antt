-- The state of tabu search in code.
use Rattle.std.specs.Prelude.{◌≡◌, ℕ, suc, ◌-◌, ◌≤◌, List, [], ◌∷◌, length, Option, Some, None, IsTrue}
use Rattle.vr_model.specs.routes.Costs.{cost}
use Rattle.vr_model.specs.routes.Rules.{is_valid}
use Rattle.vr_model.specs.search.Outcomes.{SearchState, Outcome, accepted, ended, event_at}
use Rattle.vr_model.specs.tables.Tables.{visits}
use Rattle.vr_model.specs.tables.WellFormed.{IsWellFormed}
use Rattle.vr_model.specs.declared.records.Model.{Model}
use Rattle.vr_model.specs.declared.records.End.{End}
use Rattle.vr_model.specs.declared.search.Event.{Event}
use Rattle.vr_model.specs.declared.search.Kind.TheVariants as kind
use Rattle.vr_descent.specs.Incumbents.{IsBest, IsUnderWay}
use Rattle.vr_descent.specs.Searching.{standing}
use Rattle.vr_descent.specs.declared.progress.Progress.{Progress}
use Rattle.vr_routes.specs.Tours.{Tours}
use Rattle.vr_tabu.specs.TabuSearches.{TabuList, TabuRound, none_tabu, round_of, tabu_from}
use Rattle.vr_tabu.specs.TabuSearches.TabuRound.{Best, Stuck, Cut}
use Rattle.vr_tabu.specs.Tabus.{tabus_of}
use Rattle.vr_tabu.specs.declared.searching.State.{State}
use Rattle.vr_tabu.specs.declared.searching.Parameters.{Parameters}

-- the parameters of a search are in their ranges
pub record AreTabuParameters (parameters : Parameters) : Type 0 where
  pub tries : parameters.limit.tries ≤ 1000000000
  pub solutions : parameters.limit.solutions ≤ 1000000000
  pub tenure : parameters.tenure ≤ 1000

-- what tabu search begins with. These routes are the best and cost what is known there; no visit is tabu, and there is
-- a number for each node.
pub record IsTabuBegun (model : Model) (routes : Tours) (at : Progress) (state : State) : Type 0 where
  pub at_is : state.at ≡ at
  pub best_is : state.best ≡ record { routes = routes; cost = at.cost }
  pub none : tabus_of state.tabus ≡ none_tabu
  pub covers : length state.tabus.until.items ≡ model.nodes

-- the lists of routes are valid, and their cost and that of the best ones are known
pub record IsKnownState (model : Model) (routes : Tours) (state : State) : Type 0 where
  pub well_formed : IsWellFormed model
  pub of_model : routes.visits ≡ visits model
  pub valid : IsTrue (is_valid model routes.lists)
  pub costs : state.at.cost ≡ cost model routes.lists
  pub best : IsBest model routes.visits state.best

-- the search is under way, and the number of its round is below that of the solutions found. Of each node it is known
-- how long it is tabu.
pub record TabuStands (model : Model) (parameters : Parameters) (committed : Tours → Type 0) (routes : Tours)
    (state : State) : Type 0 where
  pub going : IsUnderWay model parameters.limit committed routes state.at state.best
  pub round : suc state.tabus.round ≤ state.at.found
  pub covers : length state.tabus.until.items ≡ model.nodes

-- tabu search from there, by one round more than there are tries left
abbrev pub tabu_from_here : Model → Parameters → TabuList → List (List ℕ) → List (List ℕ) → ℕ → ℕ → Outcome
tabu_from_here model parameters tabus lists best used found =
    tabu_from model parameters.limit parameters.tenure (suc (parameters.limit.tries - used)) tabus
    (standing lists best used found)

-- the same from the state of the code
abbrev pub tabu_from_state : Model → Parameters → List (List ℕ) → State → Outcome
tabu_from_state model parameters lists state =
    tabu_from_here model parameters (tabus_of state.tabus) lists state.best.routes.lists state.at.used state.at.found

-- the round of the search from the state of the code
abbrev pub next_of : Model → Parameters → List (List ℕ) → State → TabuRound
next_of model parameters lists state =
    round_of model (tabus_of state.tabus) state.best.routes.lists lists (parameters.limit.tries - state.at.used)

-- the events of a round
abbrev pub events_of : Model → SearchState → TabuRound → List Event
events_of model state (Best n mv) = event_at model (accepted model state n mv) kind.Move ∷ []
events_of model state (Stuck n) = []
events_of model state Cut = []

-- the events of the round from the state of the code
abbrev pub next_events : Model → Parameters → List (List ℕ) → State → List Event
next_events model parameters lists state =
    events_of model (standing lists state.best.routes.lists state.at.used state.at.found)
    (next_of model parameters lists state)

-- what is left of the search from the state of the code: it goes on, or it has ended
abbrev pub left_of : Model → Parameters → List (List ℕ) → State → Option End → Outcome
left_of model parameters lists state None = tabu_from_state model parameters lists state
left_of model parameters lists state (Some stop) =
    ended (standing lists state.best.routes.lists state.at.used state.at.found) stop
