-- The state of a search in code, and what a round of cuts makes of it.
use Rattle.std.specs.Prelude.{◌≡◌, ℕ, ◌+◌, ◌-◌, Bool, false, true, List, [], ◌∷◌, ℤ, IsTrue, Option, Some, None}
use Rattle.vr_model.specs.tables.Tables.{visits}
use Rattle.vr_model.specs.routes.Rules.{is_valid}
use Rattle.vr_model.specs.routes.Costs.{cost}
use Rattle.vr_model.specs.declared.records.Model.{Model}
use Rattle.vr_model.specs.declared.search.Event.{Event}
use Rattle.vr_model.specs.declared.search.Limit.{Limit}
use Rattle.vr_model.specs.declared.search.Kind.TheVariants as kind
use Rattle.vr_routes.specs.Tours.{Tours}
use Rattle.vr_lns.specs.Rounds.{Round, round}
use Rattle.vr_lns.specs.Rounds.Round.{Accepted, Complete, Short}
use Rattle.vr_lns.specs.declared.rounds.RoundEnd.{RoundEnd}
use Rattle.vr_lns.specs.declared.rounds.RoundEnd.TheVariants as ends
use Rattle.vr_descent.specs.declared.progress.Progress.{Progress}

-- routes hold valid lists of a model that cost this much
pub record HoldValid (model : Model) (routes : Tours) (total : ℤ) : Type 0 where
  pub of_model : routes.visits ≡ visits model
  pub valid : IsTrue (is_valid model routes.lists)
  pub costs : total ≡ cost model routes.lists

-- the result of a cut was taken over
abbrev pub is_taken_over : Option (List (List ℕ)) → Bool
is_taken_over None = false
is_taken_over (Some after) = true

-- the lists after a cut was tried
abbrev pub lists_after : List (List ℕ) → Option (List (List ℕ)) → List (List ℕ)
lists_after lists None = lists
lists_after lists (Some after) = after

-- the end of a round, as code tells it
abbrev pub round_end : Round → RoundEnd
round_end (Accepted n after) = ends.Accepted n
round_end (Complete n) = ends.Complete n
round_end Short = ends.Short

-- the lists after a round
abbrev pub lists_after_round : List (List ℕ) → Round → List (List ℕ)
lists_after_round lists (Accepted n after) = after
lists_after_round lists (Complete n) = lists
lists_after_round lists Short = lists

-- how many cuts were tried by the end of a round of which `rest` could be tried
abbrev pub tries_in_round : ℕ → RoundEnd → ℕ
tries_in_round rest (ends.Accepted place) = place
tries_in_round rest (ends.Complete length) = length
tries_in_round rest ends.Short = rest

-- the event of a cut that was made, after a number of tries
abbrev pub cut_event : Model → List (List ℕ) → ℕ → Event
cut_event model after tries = record { tries = tries; kind = kind.Move; cost = cost model after }

-- the events of a round of a search that has used this many tries
abbrev pub round_events : Model → ℕ → Round → List Event
round_events model used (Accepted n after) = cut_event model after (used + n) ∷ []
round_events model used (Complete n) = []
round_events model used Short = []

-- the state of a search after a round
abbrev pub standing_after : Model → Limit → Progress → Round → Progress
standing_after model limit at (Accepted n after) =
    record { used = at.used + n; found = at.found + 1; cost = cost model after }
standing_after model limit at (Complete n) = record { used = at.used + n; found = at.found; cost = at.cost }
standing_after model limit at Short = record { used = limit.tries; found = at.found; cost = at.cost }

-- the round of a search of lists that has used this many tries
abbrev pub round_at : Model → ℕ → Limit → List (List ℕ) → ℕ → Round
round_at model most limit lists used = round model most lists (limit.tries - used)
