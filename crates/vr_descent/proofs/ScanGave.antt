-- What a search has after a scan, by the end of the scan.
use Rattle.std.proofs.Common.{◌≡◌, ◌∙◌, ℕ, ◌+◌, ◌-◌, ◌≤◌, Bool, true, List, sym, ap, arith}
use Rattle.std.specs.Prelude.{ℤ}
use Rattle.vr_model.specs.routes.Costs.{cost}
use Rattle.vr_model.specs.search.Scans.Scan.{Accepted as accepted, Complete as complete, Cut as cut}
use Rattle.vr_model.specs.declared.records.Model.{Model}
use Rattle.vr_model.specs.declared.neighbours.Move.{Move}
use Rattle.vr_model.specs.declared.search.Limit.{Limit}
use Rattle.vr_routes.specs.Judging.{HasCommitted, cost_change, moved}
use Rattle.vr_routes.specs.Tours.{Tours}
use Rattle.vr_descent.specs.Incumbents.{IsUnderWay, kept}
use Rattle.vr_descent.specs.Scanned.{scan_end}
use Rattle.vr_descent.specs.Searching.{after_move, progress_after, routes_after, scan_of}
use Rattle.vr_descent.specs.declared.incumbent.Incumbent.{Incumbent}
use Rattle.vr_descent.specs.declared.progress.Progress.{Progress}
use Rattle.vr_descent.specs.declared.scanning.ScanEnd.{ScanEnd}
use Rattle.vr_descent.specs.declared.scanning.ScanEnd.TheVariants.{Accepted, Complete, Cut}
use Rattle.vr_descent.proofs.EndLemmas.{accepted_at, completed, was_cut}
use Rattle.vr_descent.proofs.IncumbentLemmas.{kept_is_best}

-- a move was accepted at a place, and made
pub record Moved (model : Model) (takes : List (List ℕ) → Move → ℤ → Bool) (limit : Limit)
    (routes after : Tours) (at now : Progress) (place : ℕ) (mv : Move) : Type 0 where
  pub scanned : scan_of model takes limit routes.lists at.used ≡ accepted place mv
  pub from_one : 1 ≤ place
  pub within : place ≤ limit.tries - at.used
  pub takes_it : takes routes.lists mv (cost_change model routes.lists mv) ≡ true
  pub at_is : now ≡ after_move model routes.lists mv place at
  pub routes_are : after ≡ moved model routes mv

-- all moves were tried
pub record TriedAll (model : Model) (takes : List (List ℕ) → Move → ℤ → Bool) (limit : Limit) (routes after : Tours) (at now : Progress) (n : ℕ) : Type 0 where
  pub scanned : scan_of model takes limit routes.lists at.used ≡ complete n
  pub within : n ≤ limit.tries - at.used
  pub at_is : now ≡ record { used = at.used + n; found = at.found; cost = at.cost }
  pub routes_are : after ≡ routes

-- the tries ran out
pub record RanOut (model : Model) (takes : List (List ℕ) → Move → ℤ → Bool) (limit : Limit) (routes after : Tours) (at now : Progress) : Type 0 where
  pub scanned : scan_of model takes limit routes.lists at.used ≡ cut
  pub at_is : now ≡ record { used = limit.tries; found = at.found; cost = at.cost }
  pub routes_are : after ≡ routes

module _ (model : Model) (takes : List (List ℕ) → Move → ℤ → Bool) (limit : Limit) (routes after : Tours) (at now : Progress) (ended : ScanEnd)
    (ends : ended ≡ scan_end model routes.lists (scan_of model takes limit routes.lists at.used))
    (progress : now ≡ progress_after model limit routes.lists at (scan_of model takes limit routes.lists at.used))
    (tours : after ≡ routes_after model routes (scan_of model takes limit routes.lists at.used)) where
  pub has_moved : (place : ℕ) (mv : Move) (difference : ℤ) → ended ≡ Accepted place mv difference → Moved model takes limit routes after at now place mv
  has_moved place mv difference is =
      let found = accepted_at model takes routes.lists (limit.tries - at.used) place mv difference (sym is ∙ ends) in
      record {
        scanned = found.scanned;
        from_one = found.from_one;
        within = found.within;
        takes_it = found.takes_it;
        at_is = progress ∙ ap (progress_after model limit routes.lists at) found.scanned;
        routes_are = tours ∙ ap (routes_after model routes) found.scanned;
      }

  pub has_tried_all : (n : ℕ) → ended ≡ Complete n → TriedAll model takes limit routes after at now n
  has_tried_all n is =
      let done = completed model takes routes.lists (limit.tries - at.used) n (sym is ∙ ends) in
      record {
        scanned = done.0;
        within = done.1;
        at_is = progress ∙ ap (progress_after model limit routes.lists at) done.0;
        routes_are = tours ∙ ap (routes_after model routes) done.0;
      }

  pub has_run_out : ended ≡ Cut → RanOut model takes limit routes after at now
  has_run_out is =
      let scanned = was_cut model takes routes.lists (limit.tries - at.used) (sym is ∙ ends) in
      record {
        scanned = scanned;
        at_is = progress ∙ ap (progress_after model limit routes.lists at) scanned;
        routes_are = tours ∙ ap (routes_after model routes) scanned;
      }

module _ (model : Model) (limit : Limit) (routes after : Tours) (at now : Progress) (committed judged : Tours → Type 0) where
  -- a search is under way still where a move was made, and the cheaper routes are kept
  pub under_way_moved : (takes : List (List ℕ) → Move → ℤ → Bool) (place : ℕ) (mv : Move) (best new : Incumbent)
      → Moved model takes limit routes after at now place mv → IsUnderWay model limit committed routes at best
      → HasCommitted model judged after → new ≡ kept best after now.cost → ((at.found ≡ limit.solutions) → ⊥) → IsUnderWay model limit judged after now new
  under_way_moved takes place mv best new gave before holds keeps more =
      let used_new = ap (λ p. p.used) gave.at_is in
      let found_new = ap (λ p. p.found) gave.at_is in
      let within = gave.within in
      let costs_new : now.cost ≡ cost model after.lists = ap (λ p. p.cost) gave.at_is ∙ sym (ap (λ r. cost model r.lists) gave.routes_are) in
      record {
        holds = holds;
        costs = costs_new;
        used = omega (arith, used_new, within, before.used);
        some = omega (arith, found_new);
        found = omega (arith, found_new, before.found, more);
        best = kept_is_best model routes.visits best new after now.cost before.best keeps (sym (ap (λ r. r.visits) gave.routes_are)) costs_new holds.valid;
      }

  -- so it is where none was made, and only the tries are counted
  pub under_way_still : (used : ℕ) (best : Incumbent) → after ≡ routes → now ≡ record { used = used; found = at.found; cost = at.cost }
      → IsUnderWay model limit committed routes at best → HasCommitted model judged after → used ≤ limit.tries
      → IsUnderWay model limit judged after now best
  under_way_still used best routes_are at_is before holds low =
      let used_new = ap (λ p. p.used) at_is in
      let found_new = ap (λ p. p.found) at_is in
      let some = before.some in
      let found = before.found in
      record {
        holds = holds;
        costs = ap (λ p. p.cost) at_is ∙ (before.costs ∙ sym (ap (λ r. cost model r.lists) routes_are));
        used = omega (arith, used_new, low);
        some = omega (arith, found_new, some);
        found = omega (arith, found_new, found);
        best = record { costs = before.best.costs; valid = before.best.valid; same_visits = before.best.same_visits ∙ sym (ap (λ r. r.visits) routes_are) };
      }
