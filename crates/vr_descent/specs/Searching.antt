-- The state of a search in code, and what a scan makes of it.
use Rattle.std.specs.Prelude.{ℕ, ◌+◌, ◌-◌, Bool, List, [], ◌∷◌, ◌++◌, ℤ}
use Rattle.vr_model.specs.moves.Moves.{apply, moves}
use Rattle.vr_model.specs.routes.Costs.{cost}
use Rattle.vr_model.specs.search.Outcomes.{SearchState, Outcome}
use Rattle.vr_model.specs.search.Scans.{Scan, scan}
use Rattle.vr_model.specs.search.Scans.Scan.{Accepted, Complete, Cut}
use Rattle.vr_model.specs.declared.records.Model.{Model}
use Rattle.vr_model.specs.declared.neighbours.Move.{Move}
use Rattle.vr_model.specs.declared.search.Event.{Event}
use Rattle.vr_model.specs.declared.search.Limit.{Limit}
use Rattle.vr_model.specs.declared.search.Kind.{Kind}
use Rattle.vr_model.specs.declared.search.Kind.TheVariants as kind
use Rattle.vr_routes.specs.Judging.{moved}
use Rattle.vr_routes.specs.Tours.{Tours}
use Rattle.vr_descent.specs.Scanned.{is_acceptable}
use Rattle.vr_descent.specs.declared.progress.Progress.{Progress}

-- the state of a search as the definition has it
abbrev pub standing : List (List ℕ) → List (List ℕ) → ℕ → ℕ → SearchState
standing lists best used found = record { lists = lists; best = best; used = used; found = found }

-- these events, and then an outcome
abbrev pub behind : List Event → Outcome → Outcome
behind told rest = record rest { events = told ++ rest.events }

-- the event of a kind at a state of a search
abbrev pub event_of : Progress → Kind → Event
event_of progress kind = record { tries = progress.used; kind = kind; cost = progress.cost }

-- the event of a move of lists, after this many tries
abbrev pub move_event : Model → List (List ℕ) → Move → ℕ → Event
move_event model lists mv tries = record { tries = tries; kind = kind.Move; cost = cost model (apply model lists mv) }

-- the state of a search after a move of lists at place n of a scan
abbrev pub after_move : Model → List (List ℕ) → Move → ℕ → Progress → Progress
after_move model lists mv n progress =
    record { used = progress.used + n; found = progress.found + 1; cost = cost model (apply model lists mv) }

-- the scan of a search that has used this many tries
abbrev pub scan_of : Model → (List (List ℕ) → Move → ℤ → Bool) → Limit → List (List ℕ) → ℕ → Scan
scan_of model takes limit lists used = scan (moves model lists) (is_acceptable model takes lists) (limit.tries - used)

-- the routes after a scan
abbrev pub routes_after : Model → Tours → Scan → Tours
routes_after model routes (Accepted n mv) = moved model routes mv
routes_after model routes (Complete n) = routes
routes_after model routes Cut = routes

-- the state of a search of lists after a scan
abbrev pub progress_after : Model → Limit → List (List ℕ) → Progress → Scan → Progress
progress_after model limit lists progress (Accepted n mv) = after_move model lists mv n progress
progress_after model limit lists progress (Complete n) =
    record { used = progress.used + n; found = progress.found; cost = progress.cost }
progress_after model limit lists progress Cut =
    record { used = limit.tries; found = progress.found; cost = progress.cost }

-- the events of a scan
abbrev pub events_after : Model → List (List ℕ) → ℕ → Scan → List Event
events_after model lists used (Accepted n mv) = move_event model lists mv (used + n) ∷ []
events_after model lists used (Complete n) = []
events_after model lists used Cut = []
