-- How often guided search penalises an arc, as a statement.
use Rattle.std.specs.Prelude.{◌≡◌, ℕ, ◌-◌, ◌≤◌, false, List}
use Rattle.vr_model.specs.moves.Moves.{moves}
use Rattle.vr_model.specs.search.GuidedSearches.{Penalties, improves_augmented, is_at_end, no_penalties, raised}
use Rattle.vr_model.specs.search.Outcomes.{SearchState, accepted, begun, tried}
use Rattle.vr_model.specs.search.Scans.{Scan, scan}
use Rattle.vr_model.specs.search.Scans.Scan.{Accepted, Complete}
use Rattle.vr_model.specs.declared.neighbours.Move.{Move}
use Rattle.vr_model.specs.declared.records.Model.{Model}
use Rattle.vr_model.specs.declared.search.Lambda.{Lambda}
use Rattle.vr_model.specs.declared.search.Limit.{Limit}
use Rattle.vr_guided.specs.Counts.{AtMost}

-- the scan of guided search at this state, with these penalties
abbrev pub guided_scan : Model → Limit → Lambda → Penalties → SearchState → Scan
guided_scan model limit lambda penalties state =
    scan (moves model state.lists) (improves_augmented model lambda penalties state.lists) (limit.tries - state.used)

-- Guided search from lists comes to these penalties at this state. It begins with none, and goes on with the same ones
-- if a scan accepts a move. If a scan accepts none and the search is not at its end, they are raised.
pub data ComesTo (model : Model) (limit : Limit) (lambda : Lambda) (lists : List (List ℕ)) :
    Penalties → SearchState → Type 0 where
  begins : ComesTo model limit lambda lists no_penalties (begun lists)
  moves_on : (penalties : Penalties) (state : SearchState) (n : ℕ) (mv : Move)
      → ComesTo model limit lambda lists penalties state
      → guided_scan model limit lambda penalties state ≡ Accepted n mv
      → ComesTo model limit lambda lists penalties (accepted model state n mv)
  rises : (penalties : Penalties) (state : SearchState) (n : ℕ)
      → ComesTo model limit lambda lists penalties state
      → guided_scan model limit lambda penalties state ≡ Complete n → is_at_end model state n ≡ false
      → ComesTo model limit lambda lists (raised model penalties state.lists) (tried state n)

-- no more moves were tried than the limit allows, and no arc was penalised more often than a move was tried
pub record ArePenaltiesFew (limit : Limit) (penalties : Penalties) (state : SearchState) : Type 0 where
  pub tried_few : state.used ≤ limit.tries
  pub few : AtMost state.used penalties

-- so it is at each state that guided search comes to
abbrev pub PenaltiesAreFew : Type 0
PenaltiesAreFew =
    (model : Model) (limit : Limit) (lambda : Lambda) (lists : List (List ℕ))
    (penalties : Penalties) (state : SearchState) → ComesTo model limit lambda lists penalties state
    → ArePenaltiesFew limit penalties state
