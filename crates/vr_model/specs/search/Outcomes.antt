-- The state of a search, and how it ends.
use Rattle.std.specs.Prelude.{ℕ, suc, ◌+◌, cond, List, [], ◌∷◌, int_lt}
use Rattle.vr_model.specs.moves.Moves.{apply}
use Rattle.vr_model.specs.routes.Costs.{cost}
use Rattle.vr_model.specs.declared.records.Model.{Model}
use Rattle.vr_model.specs.declared.records.Report.{Report}
use Rattle.vr_model.specs.declared.records.End.{End}
use Rattle.vr_model.specs.declared.search.Event.{Event}
use Rattle.vr_model.specs.declared.search.Kind.{Kind}
use Rattle.vr_model.specs.declared.search.Kind.TheVariants as kind
use Rattle.vr_model.specs.declared.neighbours.Move.{Move}

-- the state of a search: the lists, the best lists so far, the tries used and the solutions found
pub record SearchState : Type 0 where
  pub lists : List (List ℕ)
  pub best : List (List ℕ)
  pub used : ℕ
  pub found : ℕ

-- how a search ends: the last lists, the best lists, the report, and the events in order
pub record Outcome : Type 0 where
  pub last : List (List ℕ)
  pub best : List (List ℕ)
  pub report : Report
  pub events : List Event

-- a search begins at the first solution, which counts as found
abbrev pub begun : List (List ℕ) → SearchState
begun lists = record { lists = lists; best = lists; used = 0; found = 1 }

-- the cheaper of two lists, the first of equally cheap ones
abbrev pub cheaper : Model → List (List ℕ) → List (List ℕ) → List (List ℕ)
cheaper model old new = cond (int_lt (cost model new) (cost model old)) new old

-- the state after n more tries
abbrev pub tried : SearchState → ℕ → SearchState
tried state n = record state { used = state.used + n }

-- the state after the move at place n of a scan was accepted
abbrev pub accepted : Model → SearchState → ℕ → Move → SearchState
accepted model state n mv = let after = apply model state.lists mv in
    record { lists = after; best = cheaper model state.best after; used = state.used + n; found = suc state.found }

-- a search that ends here, with no event more
abbrev pub ended : SearchState → End → Outcome
ended state stop = record {
  last = state.lists;
  best = state.best;
  report = record { tries = state.used; solutions = state.found; «end» = stop };
  events = [];
}

-- the event of this kind at a state of the search
abbrev pub event_at : Model → SearchState → Kind → Event
event_at model state kind = record { tries = state.used; kind = kind; cost = cost model state.lists }

-- an event, and then an outcome
abbrev pub with_event : Event → Outcome → Outcome
with_event event outcome = record outcome { events = event ∷ outcome.events }

-- a search that begins at the first solution: its event, and then the outcome from there
abbrev pub from_first : Model → List (List ℕ) → (SearchState → Outcome) → Outcome
from_first model lists search = with_event (event_at model (begun lists) kind.First) (search (begun lists))
