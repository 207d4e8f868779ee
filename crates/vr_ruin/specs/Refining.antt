-- Ruin and recreate: step after step, with less and less heat; the best lists of all are the answer.
use Rattle.std.specs.Prelude.{ℕ, zero, suc, Bool, true, false, cond, ◌==◌, List, [], ◌∷◌, ◌++◌, Option, Some, None}
use Rattle.vr_gen.specs.Draws.{words_of}
use Rattle.vr_model.specs.search.Outcomes.{Outcome, begun, ended, event_at}
use Rattle.vr_model.specs.declared.records.Model.{Model}
use Rattle.vr_model.specs.declared.records.End.TheVariants.{Tries, Solutions}
use Rattle.vr_model.specs.declared.search.Limit.{Limit}
use Rattle.vr_model.specs.declared.search.Event.{Event}
use Rattle.vr_model.specs.declared.search.Kind.TheVariants as kind
use Rattle.vr_ruin.specs.declared.wish.Wish.{Wish}
use Rattle.vr_ruin.specs.Lacking.{lack, heat_of}
use Rattle.vr_strings.specs.declared.sizes.Ruin.{Ruin}
use Rattle.vr_ruin.specs.Steps.{RefineState, after_step, step_events, step_from}

-- how a search ends: with the lists whose cost is the first cost, and with this outcome
pub record RefineEnd : Type 0 where
  pub first : List (List ℕ)
  pub outcome : Outcome

-- events, and then the end of a search
abbrev pub with_events : List Event → RefineEnd → RefineEnd
with_events events rest =
    record { first = rest.first; outcome = record rest.outcome { events = events ++ rest.outcome.events } }

-- no solution is left to find
abbrev pub is_satisfied : Limit → RefineState → Bool
is_satisfied limit state = state.search.found == limit.solutions

-- a search that stops in this state: it has found its solutions, or used its tries
abbrev pub stopped : Limit → RefineState → RefineEnd
stopped limit state = record {
  first = state.first;
  outcome = ended state.search (cond (is_satisfied limit state) Solutions Tries);
}

-- the search from a state, with this many tries left
unfoldable pub refined_from : Model → Ruin → Limit → ℕ → RefineState → RefineEnd
refined_from model ruin limit zero state = stopped limit state
refined_from model ruin limit (suc left) state = elim (is_satisfied limit state) [
  | true ↦ stopped limit state
  | false ↦ let step = step_from model ruin limit.tries state in
      with_events (step_events model state step) (refined_from model ruin limit left (after_step model state step))
]

-- what a search that begins at these lists goes by
abbrev pub ruin_of : Model → List (List ℕ) → Wish → Ruin
ruin_of model lists wish =
    record { removed = wish.removed; string = wish.string; heat = heat_of model lists wish.heat }

-- the state in which a search begins: its first lists count as found
abbrev pub refine_begun : List (List ℕ) → ℕ → RefineState
refine_begun lists seed = record { search = begun lists; first = lists; words = words_of seed }

-- the first lists are reported if they lack nothing
abbrev pub first_events : Model → List (List ℕ) → List Event
first_events model lists = cond (lack model lists == 0) (event_at model (begun lists) kind.First ∷ []) []

-- the search from open lists, to its end
unfoldable pub refined_search : Model → List (List ℕ) → Limit → Wish → RefineEnd
refined_search model lists limit wish = with_events (first_events model lists)
    (refined_from model (ruin_of model lists wish) limit limit.tries (refine_begun lists wish.seed))

-- the answer: none if the best lists lack something
unfoldable pub refined : Model → List (List ℕ) → Limit → Wish → Option RefineEnd
refined model lists limit wish = let end_of = refined_search model lists limit wish in
    cond (lack model end_of.outcome.best == 0) (Some end_of) None
