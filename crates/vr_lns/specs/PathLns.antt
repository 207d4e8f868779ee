-- Path neighbourhoods ruined and recreated: the first cut whose result costs less is made, again and again.
use Rattle.std.specs.Prelude.{ℕ, zero, suc, ◌+◌, ◌-◌, true, false, ◌==◌, List}
use Rattle.vr_model.specs.search.Outcomes.{SearchState, Outcome, tried, ended, event_at, with_event, from_first}
use Rattle.vr_model.specs.declared.records.Model.{Model}
use Rattle.vr_model.specs.declared.records.End.TheVariants.{Optimum, Tries, Solutions}
use Rattle.vr_model.specs.declared.search.Limit.{Limit}
use Rattle.vr_model.specs.declared.search.Kind.TheVariants as kind
use Rattle.vr_lns.specs.Rounds.{Round, round}
use Rattle.vr_lns.specs.Rounds.Round.{Accepted, Complete, Short}

-- after the cut at place n of a round was made: its result costs less than all lists before it
abbrev pub cut_made : SearchState → ℕ → List (List ℕ) → SearchState
cut_made state n after = record { lists = after; best = after; used = state.used + n; found = suc state.found }

-- how a search goes on after a round: from the result of the accepted cut, or it ends
abbrev pub after_round : Model → Limit → (SearchState → Outcome) → SearchState → Round → Outcome
after_round model limit again state (Accepted n after) =
    let next = cut_made state n after in with_event (event_at model next kind.Move) (again next)
after_round model limit again state (Complete n) = ended (tried state n) Optimum
after_round model limit again state Short = ended (tried state (limit.tries - state.used)) Tries

-- The search from its state, by at most this many rounds. Each round that does not end the search uses a try. So with
-- one round more than there are tries left the bound is never met.
unfoldable pub path_lns_from : Model → ℕ → Limit → ℕ → SearchState → Outcome
path_lns_from model most limit zero state = ended state Tries
path_lns_from model most limit (suc rounds) state = elim (state.found == limit.solutions) [
  | true ↦ ended state Solutions
  | false ↦ after_round model limit (path_lns_from model most limit rounds) state
      (round model most state.lists (limit.tries - state.used))
]

-- the search from lists, by cuts of at most `most` visits
unfoldable pub path_lns : Model → List (List ℕ) → Limit → ℕ → Outcome
path_lns model lists limit most = from_first model lists (path_lns_from model most limit (suc limit.tries))
