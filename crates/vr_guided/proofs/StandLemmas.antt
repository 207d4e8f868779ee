-- What guided local search goes on to after a scan, by the end of the scan.
use Rattle.std.proofs.Common.{◌≡◌, ◌∙◌, ℕ, ◌+◌, ◌-◌, ◌≤◌, Bool, true, false, List, [], ◌∷◌, sym, ap, subst, arith}
use Rattle.std.specs.Prelude.{ℤ}
use Rattle.vr_model.specs.routes.Costs.{cost}
use Rattle.vr_model.specs.search.GuidedSearches.{Penalties, is_at_end, raised}
use Rattle.vr_model.specs.search.Outcomes.{Outcome, cheaper, ended, event_at, tried}
use Rattle.vr_model.specs.search.Scans.{Scan}
use Rattle.vr_model.specs.search.Scans.Scan.{Complete as complete, Cut as cut}
use Rattle.vr_model.specs.declared.records.Model.{Model}
use Rattle.vr_model.specs.declared.records.End.{End}
use Rattle.vr_model.specs.declared.records.End.TheVariants.{Optimum, Tries}
use Rattle.vr_model.specs.declared.search.Event.{Event}
use Rattle.vr_model.specs.declared.search.Kind.TheVariants as kind
use Rattle.vr_model.specs.declared.search.Lambda.{Lambda}
use Rattle.vr_model.specs.declared.search.Limit.{Limit}
use Rattle.vr_model.specs.declared.neighbours.Move.{Move}
use Rattle.vr_routes.specs.Judging.{HasCommitted}
use Rattle.vr_routes.specs.Tours.{Tours}
use Rattle.vr_descent.specs.Searching.{behind, event_of, scan_of, standing}
use Rattle.vr_descent.specs.declared.progress.Progress.{Progress}
use Rattle.vr_descent.specs.Ending.{HasStopped}
use Rattle.vr_descent.proofs.EndingLemmas.{stops}
use Rattle.vr_descent.proofs.GoingOn.{Goes, goes_as}
use Rattle.vr_descent.proofs.ScanGave.{Moved, RanOut, TriedAll, under_way_still}
use Rattle.vr_guided.specs.Counts.{AtMost, counted}
use Rattle.vr_guided.specs.Guides.{makes_less}
use Rattle.vr_guided.specs.Standing.{GuidedStands, guided_from_here}
use Rattle.vr_guided.specs.declared.searching.State.{State}
use Rattle.vr_guided.proofs.GuidedLemmas.{at_end, at_round, few_more, left_after}

module _ (model : Model) (limit : Limit) (lambda : Lambda) (penalties : Penalties) (best : List (List ℕ)) (routes tours : Tours) (at now : Progress) where
  abbrev takes : List (List ℕ) → Move → ℤ → Bool
  takes = makes_less model lambda penalties

  abbrev left : Scan → Outcome
  left = left_after model limit lambda penalties routes.lists best at.used at.found

  -- the event of a round
  pub round_event : (n : ℕ) (event : Event) → TriedAll model takes limit routes tours at now n
      → at.cost ≡ cost model routes.lists → event ≡ event_of now kind.Round
      → event ≡ event_at model (tried (standing routes.lists best at.used at.found) n) kind.Round
  round_event n event gave costs is = is
      ∙ (ap (λ p. event_of p kind.Round) gave.at_is ∙ ap (λ k. event_of (record { used = at.used + n; found = at.found; cost = k }) kind.Round) costs)

  module _ {W : Type 0} (after : W → List Event → List ℕ) (whole : Outcome) (old new : List W)
      (goes : Goes after whole (left (scan_of model takes limit routes.lists at.used)) old new) where
    left_as : (s : Scan) (other : Outcome) → scan_of model takes limit routes.lists at.used ≡ s → left s ≡ other → Goes after whole other old new
    left_as s other scanned e = goes_as after whole _ other old new (ap left scanned ∙ e) goes

    -- a move was made, and these lists are kept
    pub goes_moved : (place : ℕ) (mv : Move) (kept : List (List ℕ))
        → Moved model takes limit routes tours at now place mv → kept ≡ cheaper model best tours.lists
        → Goes after whole (guided_from_here model limit lambda penalties tours.lists kept now.used now.found) old new
    goes_moved place mv kept gave keeps =
        let made = goes_as after whole _ _ old new (ap left gave.scanned) goes in
        let there = ap (λ r. guided_from_here model limit lambda penalties r.lists (cheaper model best r.lists) (at.used + place) (at.found + 1))
        (sym gave.routes_are) in
        let counted_on = ap (λ p. guided_from_here model limit lambda penalties tours.lists (cheaper model best tours.lists) p.used p.found) (sym gave.at_is) in
        goes_as after whole _ _ old new
        (there ∙ counted_on ∙ ap (λ b. guided_from_here model limit lambda penalties tours.lists b now.used now.found) (sym keeps)) made

    module _ (n : ℕ) (gave : TriedAll model takes limit routes tours at now n) where
      -- no penalty can help
      pub goes_to_optimum : is_at_end model (standing routes.lists best at.used at.found) n ≡ true
          → Goes after whole (ended (standing routes.lists best (at.used + n) at.found) Optimum) old new
      goes_to_optimum ends = left_as (complete n) _ gave.scanned (at_end model limit lambda penalties routes.lists best at.used at.found n ends)

      -- the penalties rise
      pub goes_to_round : is_at_end model (standing routes.lists best at.used at.found) n ≡ false
          → Goes after whole
          (behind (event_at model (tried (standing routes.lists best at.used at.found) n) kind.Round ∷ [])
          (guided_from_here model limit lambda (raised model penalties routes.lists) routes.lists best (at.used + n) at.found)) old new
      goes_to_round ends = left_as (complete n) _ gave.scanned (at_round model limit lambda penalties routes.lists best at.used at.found n ends)

    -- the tries ran out
    pub goes_to_cut : RanOut model takes limit routes tours at now → at.used ≤ limit.tries
        → Goes after whole (ended (standing routes.lists best limit.tries at.found) Tries) old new
    goes_to_cut gave low =
        let all : at.used + (limit.tries - at.used) ≡ limit.tries = omega (arith, low) in
        left_as cut _ gave.scanned (ap (λ k. ended (standing routes.lists best k at.found) Tries) all)

-- a scan that makes no move leaves the routes as they are, and only the tries are counted
module _ (model : Model) (limit : Limit) (routes tours : Tours) (state : State) (now : Progress) (used : ℕ)
    (routes_are : tours ≡ routes) (at_is : now ≡ record { used = used; found = state.at.found; cost = state.at.cost }) where
  pub stands_still : (committed judged : Tours → Type 0) → GuidedStands model limit committed routes state → HasCommitted model judged tours
      → state.at.used ≤ used → used ≤ limit.tries → GuidedStands model limit judged tours (record state { at = now })
  stands_still committed judged stands holds more low =
      let used_new = ap (λ p. p.used) at_is in
      record {
        going = under_way_still model limit routes tours state.at now committed judged used state.best routes_are at_is stands.going holds low;
        few = few_more (counted state.penalties) state.at.used now.used (omega (arith, used_new, more)) stands.few;
        covers = stands.covers;
        route_sums = stands.route_sums;
      }

  -- where what was left of the search ends, it has stopped here
  pub stops_still : {W : Type 0} (after : W → List Event → List ℕ) (whole : Outcome) (stop : End) (old new : List W)
      → Goes after whole (ended (standing routes.lists state.best.routes.lists used state.at.found) stop) old new
      → HasStopped after whole tours.lists now state.best old new stop
  stops_still after whole stop old new goes =
      subst (λ r. HasStopped after whole r.lists now state.best old new stop) (sym routes_are)
      (subst (λ p. HasStopped after whole routes.lists p state.best old new stop) (sym at_is)
      (stops after whole routes.lists (record { used = used; found = state.at.found; cost = state.at.cost }) state.best old new stop goes))

-- no arc was penalised more often than there may be tries
pub few_stand : (model : Model) (limit : Limit) (committed : Tours → Type 0) (routes : Tours) (state : State)
    → GuidedStands model limit committed routes state → limit.tries ≤ 1000000000 → AtMost 1000000000 (counted state.penalties)
few_stand model limit committed routes state stands most =
    let low = stands.going.used in
    few_more (counted state.penalties) state.at.used 1000000000 (omega (arith, low, most)) stands.few
