use Rattle.std.proofs.Common.{[], ◌∷◌, ap, subst, arith}
use Rattle.std.proofs.lemmas.Int.{ints}
use Rattle.vr_model.specs.search.Descents.{descent}
use Rattle.vr_watch.specs.Told.{Reported, ReportedInPart}
use Rattle.vr_model.proofs.tables.Refusals.{on_err}
use Rattle.vr_descent.specs.Scanned.{takes_less}
use Rattle.vr_descent.proofs.AskingLemmas.{asks_as, asks_none, for_then}
use Rattle.vr_descent.proofs.Beginnings.{cost_read, first, first_event, first_in_part, first_told}
use Rattle.vr_descent.proofs.DescentLemmas.{at_start, from_here}
use Rattle.vr_descent.proofs.DescentStands.{descends_on, ends_complete, ends_cut, ends_enough, scan_in_part}
use Rattle.vr_descent.proofs.RefusedLemmas.{less_stays, nothing_refused}
use Rattle.vr_descent.proofs.ScanGave.{Moved, has_moved, has_run_out, has_tried_all}
use Rattle.vr_descent.proofs.descending.descend.Given.{Over}
use Rattle.vr_descent.proofs.descending.descend.Goals.{In-Accepted}
use Rattle.vr_descent.proofs.descending.descend.Goals as goal

-- the scan accepted a move, which was made
moved : (g : Over) (c : In-Accepted g)
    → Moved c.args.model.now takes_less c.args.limit c.scans.routes c.advance.new.routes c.scans.at c.advance.new.self c.in-Accepted.place c.in-Accepted.mv
moved g c =
    let gave = c.in_ok-ended.ensures in
    has_moved c.args.model.now takes_less c.args.limit c.scans.routes c.advance.new.routes c.scans.at c.advance.new.self
    _ gave.ends gave.progress gave.routes c.in-Accepted.place c.in-Accepted.mv c.in-Accepted.difference c.in-Accepted.is

pub returns-in_err-note_all-clause-told_in_part : goal.returns-in_err-note_all-clause-told_in_part
returns-in_err-note_all-clause-told_in_part g c =
    on_err c.from_residual.result
    (first_in_part (λ w. (goal.Watch-dyn g (w.vtable, w.value)).after w.value)
    (descent c.args.model.now c.args.routes.now.lists c.args.limit) (from_here c.args.model.now c.args.limit c.args.routes.now.lists 0 1)
    (first c.args.model.now c.args.routes.now.lists) (at_start c.args.model.now c.args.limit c.args.routes.now.lists) _ _
    (subst
    (λ event. ReportedInPart (λ w. (goal.Watch-dyn g (w.vtable, w.value)).after w.value) c.args.watch.now.items c.note_all.new.watch.items (event ∷ []))
    (first_event c.args.model.now c.requires.well_formed c.args.routes.now.lists c.requires.begins.judge.holds.valid
    c.args.first_cost c.requires.begins.first_cost c.event.result c.event.ensures) c.in_err-note_all.ensures.told_in_part))

pub scans-init : goal.scans-init
scans-init g c =
    record {
      model = c.requires.begins.judge.judge_model;
      holds = c.requires.begins.judge.holds;
      descends = record {
        costs = cost_read c.args.model.now c.requires.well_formed c.args.routes.now.lists
            c.requires.begins.judge.holds.valid c.args.first_cost c.requires.begins.first_cost;
        no_dearer = omega (arith, ints);
        used = omega arith;
        some = omega arith;
        found = c.requires.begins.limit.one_solution;
        goes = first_told (λ w. (goal.Watch-dyn g (w.vtable, w.value)).after w.value)
            (descent c.args.model.now c.args.routes.now.lists c.args.limit) (from_here c.args.model.now c.args.limit c.args.routes.now.lists 0 1)
            (first c.args.model.now c.args.routes.now.lists) (at_start c.args.model.now c.args.limit c.args.routes.now.lists) _ _
            (subst
            (λ event. Reported (λ w. (goal.Watch-dyn g (w.vtable, w.value)).after w.value) c.args.watch.now.items c.note_all.new.watch.items (event ∷ []))
            (first_event c.args.model.now c.requires.well_formed c.args.routes.now.lists c.requires.begins.judge.holds.valid
            c.args.first_cost c.requires.begins.first_cost c.event.result c.event.ensures) c.in_ok-note_all.ensures.told);
      };
      asked = asks_none _;
      known = nothing_refused c.args.model.now takes_less c.args.routes.now.lists c.of-known.result c.of-known.ensures.none;
      learns = c.of-known.ensures.learns;
    }

pub advance-requires-clause-judge : goal.advance-requires-clause-judge
advance-requires-clause-judge g c =
    record { judge_model = c.scans.invariant.model; holds = c.scans.invariant.holds }

pub advance-requires-clause-cost : goal.advance-requires-clause-cost
advance-requires-clause-cost g c =
    c.scans.invariant.descends.costs

pub advance-requires-clause-used : goal.advance-requires-clause-used
advance-requires-clause-used g c =
    c.scans.invariant.descends.used

pub advance-requires-clause-known : goal.advance-requires-clause-known
advance-requires-clause-known g c =
    c.scans.invariant.known

pub advance-requires-clause-found : goal.advance-requires-clause-found
advance-requires-clause-found g c =
    omega (arith, c.scans.invariant.descends.found, c.requires.begins.limit.solutions)

pub advance-requires-clause-stays : goal.advance-requires-clause-stays
advance-requires-clause-stays g c h =
    less_stays c.args.model.now c.requires.well_formed (c.scans.invariant.learns h)

pub returns-in_err-ended-clause-told_in_part : goal.returns-in_err-ended-clause-told_in_part
returns-in_err-ended-clause-told_in_part g c =
    on_err c.from_residual-in_err-ended.result
    (scan_in_part (λ w. (goal.Watch-dyn g (w.vtable, w.value)).after w.value) c.args.model.now c.args.limit c.args.routes.now _
    c.requires.begins.judge.holds _ _ c.scans.routes c.scans.at c.scans.invariant.descends _ c.scans-test.true c.in_err-ended.ensures.told_in_part)

pub returns-in_err-ended-clause-asked_at_most : goal.returns-in_err-ended-clause-asked_at_most
returns-in_err-ended-clause-asked_at_most g c =
    on_err c.from_residual-in_err-ended.result (for_then _ _ _ _ _ c.scans.invariant.asked c.in_err-ended.ensures.asked_at_most)

pub scans-preserved : goal.scans-preserved
scans-preserved g c =
    let gave = c.in_ok-ended.ensures in
    let before = c.scans.invariant in
    record {
      model = gave.judge.judge_model;
      holds = gave.judge.holds;
      descends = descends_on (λ w. (goal.Watch-dyn g (w.vtable, w.value)).after w.value) c.args.model.now c.args.limit
          c.args.routes.now _ c.requires.begins.judge.holds _ _ c.scans.routes c.scans.at c.scans.invariant.descends
          _ c.scans-test.true gave.told c.advance.new.routes c.advance.new.self c.in-Accepted.place c.in-Accepted.mv
          (moved g (goal.at.scans-preserved g c).In-Accepted);
      asked = for_then _ _ _ _ _ before.asked gave.asked;
      known = gave.known;
      learns = λ h. before.learns (gave.learns h);
    }

pub scans-smaller : goal.scans-smaller
scans-smaller g c =
    let made = moved g (goal.at.scans-smaller g c).In-Accepted in
    let used_new = ap (λ p. p.used) made.at_is in
    let one = made.from_one in
    let within = made.within in
    omega (arith, used_new, one, within, c.scans.invariant.descends.used)

-- where all moves were tried ..
pub returns-in-Complete-clause-ended : goal.returns-in-Complete-clause-ended
returns-in-Complete-clause-ended g c =
    let done = c.in_ok-ended.ensures in
    ends_complete (λ w. (goal.Watch-dyn g (w.vtable, w.value)).after w.value) c.args.model.now c.args.limit
    c.args.routes.now _ c.requires.begins.judge.holds _ _ c.scans.routes c.scans.at c.scans.invariant.descends
    _ c.scans-test.true done.told c.advance.new.routes c.advance.new.self c.in-Complete.length
    (has_tried_all c.args.model.now takes_less c.args.limit c.scans.routes c.advance.new.routes c.scans.at c.advance.new.self _ c.in_ok-ended.ensures.ends
    c.in_ok-ended.ensures.progress c.in_ok-ended.ensures.routes c.in-Complete.length c.in-Complete.is) _ done.judge.holds c.report.result c.report.ensures

pub returns-in-Complete-clause-asked : goal.returns-in-Complete-clause-asked
returns-in-Complete-clause-asked g c =
    asks_as _ _ _ _ (ap (λ r. r.tries) c.report.ensures) (for_then _ _ _ _ _ c.scans.invariant.asked c.in_ok-ended.ensures.asked)

-- .. where the tries ran out ..
pub returns-in-Cut-clause-ended : goal.returns-in-Cut-clause-ended
returns-in-Cut-clause-ended g c =
    ends_cut (λ w. (goal.Watch-dyn g (w.vtable, w.value)).after w.value) c.args.model.now c.args.limit c.args.routes.now _ c.requires.begins.judge.holds
    _ _ c.scans.routes c.scans.at c.scans.invariant.descends _ c.scans-test.true c.in_ok-ended.ensures.told c.advance.new.routes c.advance.new.self
    (has_run_out c.args.model.now takes_less c.args.limit c.scans.routes c.advance.new.routes c.scans.at c.advance.new.self
    _ c.in_ok-ended.ensures.ends c.in_ok-ended.ensures.progress c.in_ok-ended.ensures.routes c.in-Cut.is) _
    c.in_ok-ended.ensures.judge.holds c.report-in-Cut.result c.report-in-Cut.ensures

pub returns-in-Cut-clause-asked : goal.returns-in-Cut-clause-asked
returns-in-Cut-clause-asked g c =
    asks_as _ _ _ _ (ap (λ r. r.tries) c.report-in-Cut.ensures) (for_then _ _ _ _ _ c.scans.invariant.asked c.in_ok-ended.ensures.asked)

-- .. and where enough solutions were found
pub returns-clause-ended : goal.returns-clause-ended
returns-clause-ended g c =
    ends_enough (λ w. (goal.Watch-dyn g (w.vtable, w.value)).after w.value) c.args.model.now c.args.limit c.args.routes.now _ c.requires.begins.judge.holds
    _ _ c.scans.routes c.scans.at c.scans.invariant.descends c.scans-test.false _ c.scans.invariant.holds c.report-2.result c.report-2.ensures

pub returns-clause-asked : goal.returns-clause-asked
returns-clause-asked g c =
    asks_as _ _ _ _ (ap (λ r. r.tries) c.report-2.ensures) c.scans.invariant.asked

pub returns-clause-judge_model : goal.returns-clause-judge_model
returns-clause-judge_model g c =
    c.scans.invariant.model

pub returns-clause-holds : goal.returns-clause-holds
returns-clause-holds g c =
    c.scans.invariant.holds
