-- No arc is penalised more often than a move was tried.
use Rattle.std.proofs.Common.{◌≡◌, ℕ, zero, suc, ◌-◌, ◌≤◌, true, false, List, subst, arith}
use Rattle.vr_model.specs.moves.Moves.{moves}
use Rattle.vr_model.specs.search.ChoosingLaws.{EndsAs}
use Rattle.vr_model.specs.search.GuidedSearches.{Penalties, improves_augmented, is_at_end}
use Rattle.vr_model.specs.search.Outcomes.{SearchState}
use Rattle.vr_model.specs.search.Scans.{Scan}
use Rattle.vr_model.specs.search.Scans.Scan.{Accepted, Complete}
use Rattle.vr_model.specs.declared.neighbours.Move.{Move}
use Rattle.vr_model.specs.declared.records.Model.{Model}
use Rattle.vr_model.specs.declared.search.Lambda.{Lambda}
use Rattle.vr_model.specs.declared.search.Limit.{Limit}
use Rattle.vr_model.proofs.searches.ScanEnding.{scan_ends}
use Rattle.vr_guided.specs.Penalising.{ArePenaltiesFew, ComesTo, PenaltiesAreFew, guided_scan}
use Rattle.vr_guided.specs.Penalising.ComesTo.{begins, moves_on, rises}
use Rattle.vr_guided.proofs.GuidedLemmas.{few_more, few_raised, none_at_first}

module _ (model : Model) (limit : Limit) (lambda : Lambda) where
  -- how a scan ends
  abbrev Ends : Penalties → SearchState → Scan → Type 0
  Ends p state s = EndsAs (moves model state.lists) (improves_augmented model lambda p state.lists) (limit.tries - state.used) s

  ends : (p : Penalties) (state : SearchState) (s : Scan) → guided_scan model limit lambda p state ≡ s → Ends p state s
  ends p state s e = subst (Ends p state) e (scan_ends (moves model state.lists) (improves_augmented model lambda p state.lists) (limit.tries - state.used))

  -- it takes a move to get to a round
  some_moves : (state : SearchState) (n : ℕ) → is_at_end model state n ≡ false → 1 ≤ n
  some_moves state zero e = absurd (no e)
    where
      no : true ≡ false → ⊥
      no e = Prim.cc
  some_moves state (suc n) e = omega arith

  after_move : (p : Penalties) (state : SearchState) (n : ℕ) (mv : Move)
      → guided_scan model limit lambda p state ≡ Accepted n mv → (1 ≤ n) × (n ≤ limit.tries - state.used)
  after_move p state n mv e = let is = ends p state (Accepted n mv) e in (is.0.from_one, is.1)

  after_round : (p : Penalties) (state : SearchState) (n : ℕ) → guided_scan model limit lambda p state ≡ Complete n → n ≤ limit.tries - state.used
  after_round p state n e = (ends p state (Complete n) e).2

  all_few : (lists : List (List ℕ)) (p : Penalties) (state : SearchState) → ComesTo model limit lambda lists p state → ArePenaltiesFew limit p state
  all_few lists _ _ begins = record { tried_few = omega arith; few = none_at_first }
  all_few lists _ _ (moves_on p state n mv before e) =
      let is = all_few lists p state before in
      let at = after_move p state n mv e in
      record {
        tried_few = (let one = at.0 in let low = at.1 in let used = is.tried_few in omega (arith, one, low, used));
        few = few_more p state.used _ (omega arith) is.few;
      }
  all_few lists _ _ (rises p state n before e more) =
      let is = all_few lists p state before in
      let low = after_round p state n e in
      let one = some_moves state n more in
      record {
        tried_few = (let used = is.tried_few in omega (arith, one, low, used));
        few = few_raised model p state.lists state.used n one is.few;
      }

pub penalties_are_few : PenaltiesAreFew
penalties_are_few model limit lambda lists p state comes = all_few model limit lambda lists p state comes
