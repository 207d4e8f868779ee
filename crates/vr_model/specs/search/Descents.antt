-- Greedy descent: the first move that makes the cost less is taken, again and again.
use Rattle.std.specs.Prelude.{ℕ, zero, suc, ◌-◌, Bool, true, false, ◌&&◌, ◌==◌, List, int_lt}
use Rattle.vr_model.specs.moves.Moves.{apply, moves}
use Rattle.vr_model.specs.routes.Rules.{is_valid}
use Rattle.vr_model.specs.routes.Costs.{cost}
use Rattle.vr_model.specs.search.Scans.{Scan, scan}
use Rattle.vr_model.specs.search.Scans.Scan.{Accepted, Complete, Cut}
use Rattle.vr_model.specs.search.Outcomes.{SearchState, Outcome, tried, accepted, ended, event_at, with_event}
use Rattle.vr_model.specs.search.Outcomes.{from_first}
use Rattle.vr_model.specs.declared.records.Model.{Model}
use Rattle.vr_model.specs.declared.records.End.TheVariants.{Optimum, Tries, Solutions}
use Rattle.vr_model.specs.declared.search.Limit.{Limit}
use Rattle.vr_model.specs.declared.search.Kind.TheVariants as kind
use Rattle.vr_model.specs.declared.neighbours.Move.{Move}

-- a move is acceptable if the lists after it are valid and cost less
abbrev pub makes_cheaper : Model → List (List ℕ) → Move → Bool
makes_cheaper model lists mv =
    let after = apply model lists mv in is_valid model after && int_lt (cost model after) (cost model lists)

-- how a descent goes on after a scan: from the accepted move again, or it ends
abbrev pub descended : Model → Limit → (SearchState → Outcome) → SearchState → Scan → Outcome
descended model limit again state (Accepted n mv) =
    let next = accepted model state n mv in with_event (event_at model next kind.Move) (again next)
descended model limit again state (Complete n) = ended (tried state n) Optimum
descended model limit again state Cut = ended (tried state (limit.tries - state.used)) Tries

-- Greedy descent from a state, by at most a given number of scans. Each scan that does not end the search uses a try.
-- So with one scan more than there are tries left the bound is never met.
unfoldable pub descent_from : Model → Limit → ℕ → SearchState → Outcome
descent_from model limit zero state = ended state Tries
descent_from model limit (suc scans) state = elim (state.found == limit.solutions) [
  | true ↦ ended state Solutions
  | false ↦ descended model limit (descent_from model limit scans) state
      (scan (moves model state.lists) (makes_cheaper model state.lists) (limit.tries - state.used))
]

-- greedy descent from lists
unfoldable pub descent : Model → List (List ℕ) → Limit → Outcome
descent model lists limit = from_first model lists (descent_from model limit (suc limit.tries))
