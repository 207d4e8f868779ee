-- Where a descent stands, and how it ends.
use Rattle.std.proofs.Common.{◌≡◌, ◌∙◌, ℕ, ◌+◌, ◌-◌, ◌≤◌, List, refl, sym, ap, subst, arith}
use Rattle.std.specs.Prelude.{◌≤ℤ◌}
use Rattle.vr_model.specs.routes.Costs.{cost}
use Rattle.vr_model.specs.search.Descents.{descent}
use Rattle.vr_model.specs.search.Outcomes.{Outcome, ended}
use Rattle.vr_model.specs.search.Scans.{Scan}
use Rattle.vr_model.specs.search.Scans.Scan.{Accepted as accepted, Complete as complete, Cut as cut}
use Rattle.vr_model.specs.declared.records.Model.{Model}
use Rattle.vr_model.specs.declared.records.End.{End}
use Rattle.vr_model.specs.declared.records.End.TheVariants.{Optimum, Tries, Solutions}
use Rattle.vr_model.specs.declared.records.Report.{Report}
use Rattle.vr_model.specs.declared.search.Event.{Event}
use Rattle.vr_model.specs.declared.search.Limit.{Limit}
use Rattle.vr_model.specs.declared.neighbours.Move.{Move}
use Rattle.vr_model.proofs.tables.Tests.{apart}
use Rattle.vr_routes.specs.Tours.{Tours}
use Rattle.vr_watch.specs.Told.{Reported, ReportedInPart}
use Rattle.vr_routes.specs.Judging.{HasCommitted}
use Rattle.vr_descent.specs.Ending.{HasEnded, report_of}
use Rattle.vr_descent.specs.Scanned.{takes_less}
use Rattle.vr_descent.specs.Searching.{behind, events_after, scan_of}
use Rattle.vr_descent.specs.declared.progress.Progress.{Progress}
use Rattle.vr_descent.proofs.DescentLemmas.{enough, from_here, left_after, no_dearer, on_scan, same_count, standing}
use Rattle.vr_descent.proofs.GoingOn.{Goes, breaks_off, goes_as, goes_more, goes_to_end}
use Rattle.vr_descent.proofs.ScanGave.{Moved, RanOut, TriedAll}

-- the whole descent is the descent from here, behind what was told; the lists cost so much, and no more than the first;
-- and tries and solutions are within the limit
pub record Descends {W : Type 0} (after : W → List Event → List ℕ) (model : Model) (limit : Limit)
    (first : List (List ℕ)) (old new : List W) (routes : Tours) (at : Progress) : Type 0 where
  pub costs : at.cost ≡ cost model routes.lists
  pub no_dearer : cost model routes.lists ≤ℤ cost model first
  pub used : at.used ≤ limit.tries
  pub some : 1 ≤ at.found
  pub found : at.found ≤ limit.solutions
  pub goes : Goes after (descent model first limit) (from_here model limit routes.lists at.used at.found) old new

module _ {W : Type 0} (after : W → List Event → List ℕ) (model : Model) (limit : Limit) (from : Tours)
    (held : Tours → Type 0) (begun : HasCommitted model held from) (old new : List W) (routes : Tours)
    (at : Progress) (stands : Descends after model limit from.lists old new routes at) where
  abbrev whole : Outcome
  whole = descent model from.lists limit

  -- it ends with so many tries, where the routes are still the same, and with this report
  ends_at : (later : List W) (tours : Tours) (now : Progress) (used : ℕ) (stop : End)
      → Goes after whole (ended (standing model limit routes.lists used at.found) stop) old later
      → now ≡ record { used = used; found = at.found; cost = at.cost } → tours ≡ routes → used ≤ limit.tries
      → (judged : Tours → Type 0) → HasCommitted model judged tours → (stated : Report)
      → stated ≡ report_of now stop → HasEnded after model limit whole from tours old later stated tours
  ends_at later tours now used stop goes at_is routes_are low judged holds stated stated_is =
      let reported : stated ≡ record { tries = used; solutions = at.found; «end» = stop } = stated_is ∙ ap (λ p. report_of p stop) at_is in
      record {
        report = reported ∙ sym (ap (λ o. o.report) goes.outcome);
        last = ap (λ r. r.lists) routes_are ∙ sym (ap (λ o. o.last) goes.outcome);
        best = ap (λ r. r.lists) routes_are ∙ sym (ap (λ o. o.best) goes.outcome);
        told = goes_to_end after whole (standing model limit routes.lists used at.found) stop old later goes;
        no_more_tries = subst (λ r. r.tries ≤ limit.tries) (sym reported) low;
        some_solution = subst (λ r. 1 ≤ r.solutions) (sym reported) stands.some;
        no_more_solutions = subst (λ r. r.solutions ≤ limit.solutions) (sym reported) stands.found;
        best_is_valid = holds.valid;
        same_visits = holds.of_model ∙ sym begun.of_model;
        no_dearer = subst (λ r. cost model r.lists ≤ℤ cost model from.lists) (sym routes_are) stands.no_dearer;
      }

  -- enough solutions were found
  pub ends_enough : at.found ≡ limit.solutions → (judged : Tours → Type 0) → HasCommitted model judged routes
      → (stated : Report) → stated ≡ report_of at Solutions → HasEnded after model limit whole from routes old new stated routes
  ends_enough all = ends_at new routes at at.used Solutions
      (goes_as after whole _ _ old new (enough model limit routes.lists at.used at.found (same_count at.found limit.solutions all)) stands.goes) refl
      refl stands.used

  module _ (later : List W) (more : (at.found ≡ limit.solutions) → ⊥) where
    abbrev scan : Scan
    scan = scan_of model takes_less limit routes.lists at.used

    abbrev left : Scan → Outcome
    left = left_after model limit routes.lists at.used at.found

    on : Goes after whole (behind (events_after model routes.lists at.used scan) (left scan)) old new
    on = goes_as after whole _ _ old new (on_scan model limit routes.lists at.used at.found (apart at.found limit.solutions more)) stands.goes

    -- the events of a scan were told in part
    pub scan_in_part : ReportedInPart after new later (events_after model routes.lists at.used scan) → ReportedInPart after old later whole.events
    scan_in_part told = breaks_off after whole (left scan) (events_after model routes.lists at.used scan) old new later on told

    module _ (told : Reported after new later (events_after model routes.lists at.used scan)) (tours : Tours) (now : Progress) where
      after_scan : (s : Scan) → scan ≡ s → Goes after whole (left s) old later
      after_scan s e = subst (λ x. Goes after whole (left x) old later) e
          (goes_more after whole (left scan) (events_after model routes.lists at.used scan) old new later on told)

      -- a move was made
      pub descends_on : (place : ℕ) (mv : Move) → Moved model takes_less limit routes tours at now place mv
          → Descends after model limit from.lists old later tours now
      descends_on place mv gave =
          let used_new = ap (λ p. p.used) gave.at_is in
          let found_new = ap (λ p. p.found) gave.at_is in
          let within = gave.within in
          record {
            costs = ap (λ p. p.cost) gave.at_is ∙ sym (ap (λ r. cost model r.lists) gave.routes_are);
            no_dearer = subst (λ r. cost model r.lists ≤ℤ cost model from.lists) (sym gave.routes_are) (no_dearer _ _ _ gave.takes_it stands.no_dearer);
            used = omega (arith, used_new, within, stands.used);
            some = omega (arith, found_new);
            found = omega (arith, found_new, stands.found, more);
            goes = subst (λ p. Goes after whole (from_here model limit tours.lists p.used p.found) old later) (sym gave.at_is)
                (subst (λ r. Goes after whole (from_here model limit r.lists (at.used + place) (at.found + 1)) old later)
                (sym gave.routes_are) (after_scan (accepted place mv) gave.scanned));
          }

      -- all moves were tried
      pub ends_complete : (n : ℕ) → TriedAll model takes_less limit routes tours at now n → (judged : Tours → Type 0) → HasCommitted model judged tours
          → (stated : Report) → stated ≡ report_of now Optimum → HasEnded after model limit whole from tours old later stated tours
      ends_complete n gave = ends_at later tours now (at.used + n) Optimum (after_scan (complete n) gave.scanned)
          gave.at_is gave.routes_are (let within = gave.within in omega (arith, within, stands.used))

      -- the tries ran out
      pub ends_cut : RanOut model takes_less limit routes tours at now → (judged : Tours → Type 0) → HasCommitted model judged tours
          → (stated : Report) → stated ≡ report_of now Tries → HasEnded after model limit whole from tours old later stated tours
      ends_cut gave =
          let all : at.used + (limit.tries - at.used) ≡ limit.tries = omega (arith, stands.used) in
          ends_at later tours now limit.tries Tries
          (goes_as after whole _ _ old later (ap (λ k. ended (standing model limit routes.lists k at.found) Tries) all) (after_scan cut gave.scanned))
          gave.at_is gave.routes_are (omega arith)
