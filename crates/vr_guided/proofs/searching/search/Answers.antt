use Rattle.std.proofs.Common.{◌≡◌, ◌∙◌, ◌+◌, Bool, true, false, [], ◌∷◌, refl, sym, ap, subst, arith, rules}
use Rattle.std.specs.Prelude.{◌≤ℤ◌, ◌==◌, ◌||◌, not}
use Rattle.std.proofs.lemmas.Int.{ints}
use Rattle.vr_model.specs.search.GuidedSearches.{has_costly_arc, is_at_end, raised}
use Rattle.vr_model.specs.search.Outcomes.{event_at, tried}
use Rattle.vr_model.specs.declared.records.End.TheVariants.{Optimum, Tries, Solutions}
use Rattle.vr_model.specs.declared.search.Kind.TheVariants as kind
use Rattle.vr_watch.specs.Told.{Reported, ReportedInPart}
use Rattle.vr_model.proofs.tables.Refusals.{on_err}
use Rattle.vr_model.proofs.tables.Tests.{apart}
use Rattle.vr_watch.proofs.ToldLemmas.{told_nothing}
use Rattle.vr_descent.specs.Searching.{scan_of, standing}
use Rattle.vr_descent.proofs.AskingLemmas.{on_more, on_none, on_then}
use Rattle.vr_descent.proofs.DescentLemmas.{same_count}
use Rattle.vr_descent.proofs.EndingLemmas.{stops}
use Rattle.vr_descent.proofs.GoingOn.{Goes, breaks_off, goes_as, goes_more}
use Rattle.vr_descent.proofs.IncumbentLemmas.{kept_lists, kept_no_dearer}
use Rattle.vr_descent.proofs.RefusedLemmas.{nothing_refused}
use Rattle.vr_descent.proofs.ScanGave.{Moved, RanOut, TriedAll, has_moved, has_run_out, has_tried_all, under_way_moved}
use Rattle.vr_guided.specs.Counts.{AtMost, counted}
use Rattle.vr_guided.specs.Guides.{makes_less}
use Rattle.vr_guided.specs.RouteSums.{AreAllRouteSums}
use Rattle.vr_guided.specs.Standing.{guided_from_here, guided_from_state}
use Rattle.vr_guided.proofs.GuidedLemmas.{after_scan, as_many, costly_of, enough, few_more, few_raised, left_after, scan_in_part, some_moves}
use Rattle.vr_guided.proofs.GuidedStay.{guided_stays}
use Rattle.vr_guided.proofs.SpareLemmas.{still_refused}
use Rattle.vr_guided.proofs.StandLemmas.{few_stand, goes_moved, goes_to_cut, goes_to_optimum, goes_to_round, round_event, stands_still, stops_still}
use Rattle.vr_guided.proofs.searching.search.Given.{Over}
use Rattle.vr_guided.proofs.searching.search.Goals.{After-is_stuck, In-Accepted, In-Cut, In_ok-ended}
use Rattle.vr_guided.proofs.searching.search.Goals as goal

-- what is left after a scan, behind what was told
left : (g : Over) (c : In_ok-ended g) → Goes (λ w. (goal.Watch-dyn g (w.vtable, w.value)).after w.value)
    (guided_from_state c.args.closed.model.now c.args.parameters.limit c.args.parameters.lambda c.args.routes.now.lists c.args.state.now)
    (left_after c.args.closed.model.now c.args.parameters.limit c.args.parameters.lambda (counted c.scans.state.penalties)
    c.scans.routes.lists c.scans.state.best.routes.lists c.scans.state.at.used c.scans.state.at.found
    (scan_of c.args.closed.model.now (makes_less c.args.closed.model.now c.args.parameters.lambda (counted c.scans.state.penalties))
    c.args.parameters.limit c.scans.routes.lists c.scans.state.at.used)) c.args.watch.now.items c.advance.new.watch.items
left g c = after_scan c.args.closed.model.now c.args.parameters.limit c.args.parameters.lambda (counted c.scans.state.penalties) c.scans.routes.lists
    c.scans.state.best.routes.lists c.scans.state.at.used c.scans.state.at.found (λ w. (goal.Watch-dyn g (w.vtable, w.value)).after w.value)
    (guided_from_state c.args.closed.model.now c.args.parameters.limit c.args.parameters.lambda c.args.routes.now.lists c.args.state.now) _
    _ _ (apart c.scans.state.at.found c.args.parameters.limit.solutions c.scans-test.true) c.scans.invariant.goes c.in_ok-ended.ensures.told

-- what the search has after it, by its end
moved : (g : Over) (c : In-Accepted g)
    → Moved c.args.closed.model.now (makes_less c.args.closed.model.now c.args.parameters.lambda (counted c.scans.state.penalties))
    c.args.parameters.limit c.scans.routes c.advance.new.routes c.scans.state.at c.advance.new.self c.in-Accepted.place c.in-Accepted.mv
moved g c = has_moved c.args.closed.model.now (makes_less c.args.closed.model.now c.args.parameters.lambda (counted c.scans.state.penalties))
    c.args.parameters.limit c.scans.routes c.advance.new.routes c.scans.state.at c.advance.new.self _ c.in_ok-ended.ensures.ends
    c.in_ok-ended.ensures.progress c.in_ok-ended.ensures.routes c.in-Accepted.place c.in-Accepted.mv c.in-Accepted.difference c.in-Accepted.is

tried_all : (g : Over) (c : After-is_stuck g)
    → TriedAll c.args.closed.model.now (makes_less c.args.closed.model.now c.args.parameters.lambda (counted c.scans.state.penalties))
    c.args.parameters.limit c.scans.routes c.advance.new.routes c.scans.state.at c.advance.new.self c.in-Complete.length
tried_all g c = has_tried_all c.args.closed.model.now (makes_less c.args.closed.model.now c.args.parameters.lambda (counted c.scans.state.penalties))
    c.args.parameters.limit c.scans.routes c.advance.new.routes c.scans.state.at c.advance.new.self _ c.in_ok-ended.ensures.ends
    c.in_ok-ended.ensures.progress c.in_ok-ended.ensures.routes c.in-Complete.length c.in-Complete.is

ran_out : (g : Over) (c : In-Cut g)
    → RanOut c.args.closed.model.now (makes_less c.args.closed.model.now c.args.parameters.lambda (counted c.scans.state.penalties))
    c.args.parameters.limit c.scans.routes c.advance.new.routes c.scans.state.at c.advance.new.self
ran_out g c = has_run_out c.args.closed.model.now (makes_less c.args.closed.model.now c.args.parameters.lambda (counted c.scans.state.penalties))
    c.args.parameters.limit c.scans.routes c.advance.new.routes c.scans.state.at c.advance.new.self _
    c.in_ok-ended.ensures.ends c.in_ok-ended.ensures.progress c.in_ok-ended.ensures.routes c.in-Cut.is

-- whether no penalty can help
stuck : (g : Over) (c : After-is_stuck g) (b : Bool) → c.is_stuck.result ≡ b → is_at_end c.args.closed.model.now
    (standing c.scans.routes.lists c.scans.state.best.routes.lists c.scans.state.at.used c.scans.state.at.found) c.in-Complete.length ≡ b
stuck g c b is = ap (λ r. (c.in-Complete.length == 0) || not (has_costly_arc c.args.closed.model.now r.lists)) (sym (tried_all g c).routes_are)
    ∙ (sym c.is_stuck.ensures ∙ is)

pub invariant_of-before : goal.invariant_of-before
invariant_of-before g c =
    record { covers = c.requires.stands.covers; few = few_stand _ _ _ _ c.args.state.now c.requires.stands c.requires.parameters.tries }

pub invariant_of-weights : goal.invariant_of-weights
invariant_of-weights g c =
    record { covers = c.scans.invariant.stands.covers; few = few_stand _ _ _ _ c.scans.state c.scans.invariant.stands c.requires.parameters.tries }

pub raise-requires-clause-counts : goal.raise-requires-clause-counts
raise-requires-clause-counts g c =
    record { covers = c.scans.invariant.stands.covers; few = few_stand _ _ _ _ c.scans.state c.scans.invariant.stands c.requires.parameters.tries }

pub invariant_of-guiding : goal.invariant_of-guiding
invariant_of-guiding g c =
    let limits = c.requires.parameters in
    record {
      sound = record {
        p_in_range = record { at_least = limits.p_from_one; at_most = limits.p_to_1000 };
        q_in_range = record { at_least = limits.q_from_one; at_most = limits.q_to_1000 };
      };
    }

pub scans-init : goal.scans-init
scans-init g c =
    record {
      model = c.requires.judge_model;
      stands = record {
        going = c.requires.stands.going;
        few = c.requires.stands.few;
        covers = c.requires.stands.covers;
        route_sums = c.write.ensures.many;
      };
      route_sums = c.write.ensures;
      asked = on_none _ _;
      no_dearer = omega (arith, ints);
      goes = record { told = []; outcome = refl; heard = told_nothing (λ w. (goal.Watch-dyn g (w.vtable, w.value)).after w.value) _ };
      known = nothing_refused c.args.closed.model.now (makes_less c.args.closed.model.now c.args.parameters.lambda (counted c.args.state.now.penalties))
          c.args.routes.now.lists c.of-known.result c.of-known.ensures.none;
      learns = c.of-known.ensures.learns;
    }

pub advance-requires : goal.advance-requires
advance-requires g c =
    record {
      well_formed = c.args.closed.well_formed;
      judge = record { judge_model = c.scans.invariant.model; holds = c.scans.invariant.stands.going.holds };
      accept_model = search rules;
      accept_stands = c.scans.invariant.route_sums;
      cost = c.scans.invariant.stands.going.costs;
      tries = c.requires.parameters.tries;
      used = c.scans.invariant.stands.going.used;
      found = (let low = c.scans.invariant.stands.going.found in let most = c.requires.parameters.solutions in omega (arith, low, most));
      known = c.scans.invariant.known;
      stays = λ h. guided_stays c.args.closed.model.now c.args.closed.well_formed
          (c.scans.invariant.learns h) c.args.parameters.lambda (counted c.scans.state.penalties);
    }

pub returns-in_err-ended-clause-told_in_part : goal.returns-in_err-ended-clause-told_in_part
returns-in_err-ended-clause-told_in_part g c =
    let more = apart c.scans.state.at.found c.args.parameters.limit.solutions c.scans-test.true in
    on_err c.from_residual.result
    (scan_in_part c.args.closed.model.now c.args.parameters.limit c.args.parameters.lambda (counted c.scans.state.penalties) c.scans.routes.lists
    c.scans.state.best.routes.lists c.scans.state.at.used c.scans.state.at.found (λ w. (goal.Watch-dyn g (w.vtable, w.value)).after w.value)
    (guided_from_state c.args.closed.model.now c.args.parameters.limit c.args.parameters.lambda c.args.routes.now.lists c.args.state.now)
    _ _ _ more c.scans.invariant.goes c.in_err-ended.ensures.told_in_part)

pub returns-in_err-ended-clause-asked_at_most : goal.returns-in_err-ended-clause-asked_at_most
returns-in_err-ended-clause-asked_at_most g c =
    on_err c.from_residual.result (on_then _ _ _ _ _ _ c.scans.invariant.asked c.in_err-ended.ensures.asked_at_most)

pub offer-requires-clause-visits : goal.offer-requires-clause-visits
offer-requires-clause-visits g c =
    c.scans.invariant.stands.going.best.same_visits ∙ sym (ap (λ r. r.visits) (moved g (goal.at.offer-requires-clause-visits g c).In-Accepted).routes_are)

pub offer-requires-clause-many : goal.offer-requires-clause-many
offer-requires-clause-many g c =
    as_many c.args.closed.model.now c.scans.state.best.routes.lists c.advance.new.routes.lists
    c.scans.invariant.stands.going.best.valid c.in_ok-ended.ensures.judge.holds.valid

pub scans-smaller-in-Accepted : goal.scans-smaller-in-Accepted
scans-smaller-in-Accepted g c =
    let made = moved g (goal.at.scans-smaller-in-Accepted g c).In-Accepted in
    let used_new = ap (λ p. p.used) made.at_is in
    let one = made.from_one in
    let within = made.within in
    omega (arith, used_new, one, within, c.scans.invariant.stands.going.used)

pub scans-preserved-in-Accepted : goal.scans-preserved-in-Accepted
scans-preserved-in-Accepted g c =
    let at = goal.at.scans-preserved-in-Accepted g c in
    let made = moved g at.In-Accepted in
    let used_new = ap (λ p. p.used) made.at_is in
    let under_way = under_way_moved c.args.closed.model.now c.args.parameters.limit c.scans.routes c.advance.new.routes c.scans.state.at c.advance.new.self
    _ _ _ _ _ c.scans.state.best c.offer.new.self made c.scans.invariant.stands.going c.in_ok-ended.ensures.judge.holds c.offer.ensures c.scans-test.true in
    let followed : AreAllRouteSums c.args.closed.model.now (counted c.scans.state.penalties) c.advance.new.routes.lists c.follow.new.self
    = c.follow.ensures c.scans.routes.lists c.scans.invariant.route_sums (ap (λ r. r.lists) made.routes_are) in
    record {
      model = c.in_ok-ended.ensures.judge.judge_model;
      stands = record {
        going = under_way;
        few = few_more (counted c.scans.state.penalties) c.scans.state.at.used c.advance.new.self.used (omega (arith, used_new)) c.scans.invariant.stands.few;
        covers = c.scans.invariant.stands.covers;
        route_sums = followed.many;
      };
      route_sums = followed;
      asked = on_then _ _ _ _ _ _ c.scans.invariant.asked c.in_ok-ended.ensures.asked;
      no_dearer = subst (λ b. b.cost ≤ℤ c.args.state.now.best.cost) (sym c.offer.ensures)
          (kept_no_dearer c.scans.state.best c.advance.new.routes c.advance.new.self.cost c.args.state.now.best.cost c.scans.invariant.no_dearer);
      goes =
          goes_moved c.args.closed.model.now c.args.parameters.limit c.args.parameters.lambda (counted c.scans.state.penalties) c.scans.state.best.routes.lists
          c.scans.routes c.advance.new.routes c.scans.state.at c.advance.new.self (λ w. (goal.Watch-dyn g (w.vtable, w.value)).after w.value)
          (guided_from_state c.args.closed.model.now c.args.parameters.limit c.args.parameters.lambda c.args.routes.now.lists c.args.state.now)
          _ _ (left g at.In_ok-ended) c.in-Accepted.place c.in-Accepted.mv c.offer.new.self.routes.lists made
          (ap (λ b. b.routes.lists) c.offer.ensures ∙ kept_lists c.args.closed.model.now c.scans.state.best
          c.advance.new.routes c.advance.new.self.cost c.scans.invariant.stands.going.best.costs under_way.costs);
      known = c.in_ok-ended.ensures.known;
      learns = λ h. c.scans.invariant.learns (c.in_ok-ended.ensures.learns h);
    }

pub is_stuck-requires : goal.is_stuck-requires
is_stuck-requires g c =
    c.in_ok-ended.ensures.judge.holds.valid

pub raise-requires-clause-valid : goal.raise-requires-clause-valid
raise-requires-clause-valid g c =
    c.in_ok-ended.ensures.judge.holds.valid

pub raise-requires-clause-costly : goal.raise-requires-clause-costly
raise-requires-clause-costly g c =
    costly_of (c.in-Complete.length == 0) (has_costly_arc c.args.closed.model.now c.advance.new.routes.lists) (sym c.is_stuck.ensures ∙ c.if-is_stuck.false)

pub invariant_of-raised : goal.invariant_of-raised
invariant_of-raised g c =
    let at = goal.at.invariant_of-raised g c in
    let done = tried_all g at.After-is_stuck in
    let low = done.within in
    let ends = stuck g at.After-is_stuck false c.if-is_stuck.false in
    let raised_new : counted c.raise.new.self ≡ (raised c.args.closed.model.now (counted c.scans.state.penalties) c.scans.routes.lists) =
    c.raise.ensures.raised ∙ ap (λ r. raised c.args.closed.model.now (counted c.scans.state.penalties) r.lists) done.routes_are in
    record {
      covers = c.raise.ensures.nodes ∙ c.scans.invariant.stands.covers;
      few = few_more (counted c.raise.new.self) (c.scans.state.at.used + c.in-Complete.length)
          1000000000 (omega (arith, low, c.scans.invariant.stands.going.used, c.requires.parameters.tries))
          (subst (λ p. AtMost (c.scans.state.at.used + c.in-Complete.length) p) (sym raised_new)
          (few_raised c.args.closed.model.now (counted c.scans.state.penalties) c.scans.routes.lists c.scans.state.at.used c.in-Complete.length
          (some_moves c.args.closed.model.now c.args.parameters.limit c.args.parameters.lambda (counted c.scans.state.penalties) c.scans.routes.lists
          c.scans.state.best.routes.lists c.scans.state.at.used c.scans.state.at.found c.in-Complete.length ends) c.scans.invariant.stands.few));
    }

pub scans-smaller : goal.scans-smaller
scans-smaller g c =
    let at = goal.at.scans-smaller g c in
    let done = tried_all g at.After-is_stuck in
    let low = done.within in
    let ends = stuck g at.After-is_stuck false c.if-is_stuck.false in
    let used_new = ap (λ p. p.used) done.at_is in
    let one = (some_moves c.args.closed.model.now c.args.parameters.limit c.args.parameters.lambda (counted c.scans.state.penalties)
    c.scans.routes.lists c.scans.state.best.routes.lists c.scans.state.at.used c.scans.state.at.found c.in-Complete.length ends) in
    omega (arith, used_new, one, low, c.scans.invariant.stands.going.used)

pub returns-in_err-note_all-in-Complete-clause-told_in_part : goal.returns-in_err-note_all-in-Complete-clause-told_in_part
returns-in_err-note_all-in-Complete-clause-told_in_part g c =
    let at = goal.at.returns-in_err-note_all-in-Complete-clause-told_in_part g c in
    let done = tried_all g at.After-is_stuck in
    let ends = stuck g at.After-is_stuck false c.if-is_stuck.false in
    on_err c.from_residual-in_err-note_all-in-Complete.result
    (breaks_off (λ w. (goal.Watch-dyn g (w.vtable, w.value)).after w.value)
    (guided_from_state c.args.closed.model.now c.args.parameters.limit c.args.parameters.lambda c.args.routes.now.lists c.args.state.now)
    (guided_from_here c.args.closed.model.now c.args.parameters.limit c.args.parameters.lambda
    (raised c.args.closed.model.now (counted c.scans.state.penalties) c.scans.routes.lists) c.scans.routes.lists
    c.scans.state.best.routes.lists (c.scans.state.at.used + c.in-Complete.length) c.scans.state.at.found)
    ((event_at c.args.closed.model.now
    (tried (standing c.scans.routes.lists c.scans.state.best.routes.lists c.scans.state.at.used c.scans.state.at.found) c.in-Complete.length) kind.Round)
    ∷ []) _ _ _
    (goes_to_round c.args.closed.model.now c.args.parameters.limit c.args.parameters.lambda
    (counted c.scans.state.penalties) c.scans.state.best.routes.lists c.scans.routes c.advance.new.routes
    c.scans.state.at c.advance.new.self (λ w. (goal.Watch-dyn g (w.vtable, w.value)).after w.value)
    (guided_from_state c.args.closed.model.now c.args.parameters.limit c.args.parameters.lambda c.args.routes.now.lists c.args.state.now)
    _ _ (left g at.In_ok-ended) c.in-Complete.length done ends)
    (subst
    (λ event. ReportedInPart (λ w. (goal.Watch-dyn g (w.vtable, w.value)).after w.value) c.advance.new.watch.items c.note_all.new.watch.items (event ∷ []))
    (round_event c.args.closed.model.now c.args.parameters.limit c.args.parameters.lambda (counted c.scans.state.penalties)
    c.scans.state.best.routes.lists c.scans.routes c.advance.new.routes c.scans.state.at c.advance.new.self c.in-Complete.length
    c.event.result done c.scans.invariant.stands.going.costs c.event.ensures) c.in_err-note_all-in-Complete.ensures.told_in_part))

pub returns-in_err-note_all-in-Complete-clause-asked_at_most : goal.returns-in_err-note_all-in-Complete-clause-asked_at_most
returns-in_err-note_all-in-Complete-clause-asked_at_most g c =
    let done = tried_all g (goal.at.returns-in_err-note_all-in-Complete-clause-asked_at_most g c).After-is_stuck in
    let low = done.within in
    let used_new = ap (λ p. p.used) done.at_is in
    on_err c.from_residual-in_err-note_all-in-Complete.result
    (on_more _ _ _ _ _ (on_then _ _ _ _ _ _ c.scans.invariant.asked c.in_ok-ended.ensures.asked)
    (omega (arith, used_new, low, c.scans.invariant.stands.going.used)))

pub scans-preserved : goal.scans-preserved
scans-preserved g c =
    let at = goal.at.scans-preserved g c in
    let done = tried_all g at.After-is_stuck in
    let low = done.within in
    let ends = stuck g at.After-is_stuck false c.if-is_stuck.false in
    let raised_new : counted c.raise.new.self ≡ (raised c.args.closed.model.now (counted c.scans.state.penalties) c.scans.routes.lists) =
    c.raise.ensures.raised ∙ ap (λ r. raised c.args.closed.model.now (counted c.scans.state.penalties) r.lists) done.routes_are in
    let used_new = ap (λ p. p.used) done.at_is in
    let still = stands_still c.args.closed.model.now c.args.parameters.limit c.scans.routes c.advance.new.routes c.scans.state
    c.advance.new.self (c.scans.state.at.used + c.in-Complete.length) done.routes_are done.at_is _ _ c.scans.invariant.stands
    c.in_ok-ended.ensures.judge.holds (omega arith) (omega (arith, low, c.scans.invariant.stands.going.used)) in
    let there = ap (λ r. guided_from_here c.args.closed.model.now c.args.parameters.limit c.args.parameters.lambda
    (raised c.args.closed.model.now (counted c.scans.state.penalties) c.scans.routes.lists) r.lists
    c.scans.state.best.routes.lists (c.scans.state.at.used + c.in-Complete.length) c.scans.state.at.found) (sym done.routes_are)
    ∙ (ap (λ p. guided_from_here c.args.closed.model.now c.args.parameters.limit c.args.parameters.lambda
    (raised c.args.closed.model.now (counted c.scans.state.penalties) c.scans.routes.lists) c.advance.new.routes.lists c.scans.state.best.routes.lists
    p.used p.found) (sym done.at_is) ∙ ap (λ q. guided_from_here c.args.closed.model.now c.args.parameters.limit c.args.parameters.lambda
    q c.advance.new.routes.lists c.scans.state.best.routes.lists c.advance.new.self.used c.advance.new.self.found) (sym raised_new)) in
    record {
      model = c.in_ok-ended.ensures.judge.judge_model;
      stands = record {
        going = still.going;
        few = subst (λ k. AtMost k (counted c.raise.new.self)) (sym used_new)
            (subst (λ p. AtMost (c.scans.state.at.used + c.in-Complete.length) p) (sym raised_new)
            (few_raised c.args.closed.model.now (counted c.scans.state.penalties) c.scans.routes.lists c.scans.state.at.used c.in-Complete.length
            (some_moves c.args.closed.model.now c.args.parameters.limit c.args.parameters.lambda (counted c.scans.state.penalties) c.scans.routes.lists
            c.scans.state.best.routes.lists c.scans.state.at.used c.scans.state.at.found c.in-Complete.length ends) c.scans.invariant.stands.few));
        covers = c.raise.ensures.nodes ∙ c.scans.invariant.stands.covers;
        route_sums = c.write-in-Complete.ensures.many;
      };
      route_sums = c.write-in-Complete.ensures;
      asked = on_then _ _ _ _ _ _ c.scans.invariant.asked c.in_ok-ended.ensures.asked;
      no_dearer = c.scans.invariant.no_dearer;
      goes = goes_as (λ w. (goal.Watch-dyn g (w.vtable, w.value)).after w.value)
          (guided_from_state c.args.closed.model.now c.args.parameters.limit c.args.parameters.lambda c.args.routes.now.lists c.args.state.now) _ _ _ _
          there (goes_more (λ w. (goal.Watch-dyn g (w.vtable, w.value)).after w.value)
          (guided_from_state c.args.closed.model.now c.args.parameters.limit c.args.parameters.lambda c.args.routes.now.lists c.args.state.now)
          (guided_from_here c.args.closed.model.now c.args.parameters.limit c.args.parameters.lambda
          (raised c.args.closed.model.now (counted c.scans.state.penalties) c.scans.routes.lists) c.scans.routes.lists
          c.scans.state.best.routes.lists (c.scans.state.at.used + c.in-Complete.length) c.scans.state.at.found)
          ((event_at c.args.closed.model.now
          (tried (standing c.scans.routes.lists c.scans.state.best.routes.lists c.scans.state.at.used c.scans.state.at.found) c.in-Complete.length) kind.Round)
          ∷ []) _ _ _
          (goes_to_round c.args.closed.model.now c.args.parameters.limit c.args.parameters.lambda
          (counted c.scans.state.penalties) c.scans.state.best.routes.lists c.scans.routes c.advance.new.routes
          c.scans.state.at c.advance.new.self (λ w. (goal.Watch-dyn g (w.vtable, w.value)).after w.value)
          (guided_from_state c.args.closed.model.now c.args.parameters.limit c.args.parameters.lambda c.args.routes.now.lists c.args.state.now)
          _ _ (left g at.In_ok-ended) c.in-Complete.length done ends)
          (subst
          (λ event. Reported (λ w. (goal.Watch-dyn g (w.vtable, w.value)).after w.value) c.advance.new.watch.items c.note_all.new.watch.items (event ∷ []))
          (round_event c.args.closed.model.now c.args.parameters.limit c.args.parameters.lambda (counted c.scans.state.penalties)
          c.scans.state.best.routes.lists c.scans.routes c.advance.new.routes c.scans.state.at c.advance.new.self c.in-Complete.length
          c.event.result done c.scans.invariant.stands.going.costs c.event.ensures) c.in_ok-note_all-in-Complete.ensures.told));
      known = still_refused c.args.closed.model.now c.args.closed.well_formed c.args.parameters.lambda
          (counted c.scans.state.penalties) (counted c.raise.new.self) c.advance.new.routes.lists c.in_ok-ended.ensures.judge.holds.valid
          c.advance.new.known c.raise.new.known c.raise.ensures.fewer c.raise.ensures.spares c.raise.ensures.settled c.in_ok-ended.ensures.known;
      learns = λ h. c.scans.invariant.learns (c.in_ok-ended.ensures.learns (c.raise.ensures.learns h));
    }

pub returns-then-is_stuck-clause-stopped : goal.returns-then-is_stuck-clause-stopped
returns-then-is_stuck-clause-stopped g c =
    let at = goal.at.returns-then-is_stuck-clause-stopped g c in
    let done = tried_all g at.After-is_stuck in
    stops_still c.args.closed.model.now c.args.parameters.limit c.scans.routes c.advance.new.routes c.scans.state c.advance.new.self
    (c.scans.state.at.used + c.in-Complete.length) done.routes_are done.at_is (λ w. (goal.Watch-dyn g (w.vtable, w.value)).after w.value)
    (guided_from_state c.args.closed.model.now c.args.parameters.limit c.args.parameters.lambda c.args.routes.now.lists c.args.state.now) Optimum _
    _ (goes_to_optimum c.args.closed.model.now c.args.parameters.limit c.args.parameters.lambda
    (counted c.scans.state.penalties) c.scans.state.best.routes.lists c.scans.routes c.advance.new.routes
    c.scans.state.at c.advance.new.self (λ w. (goal.Watch-dyn g (w.vtable, w.value)).after w.value)
    (guided_from_state c.args.closed.model.now c.args.parameters.limit c.args.parameters.lambda c.args.routes.now.lists c.args.state.now)
    _ _ (left g at.In_ok-ended) c.in-Complete.length (tried_all g at.After-is_stuck) (stuck g at.After-is_stuck true c.if-is_stuck.true))

pub returns-then-is_stuck-clause-asked : goal.returns-then-is_stuck-clause-asked
returns-then-is_stuck-clause-asked g c =
    on_then _ _ _ _ _ _ c.scans.invariant.asked c.in_ok-ended.ensures.asked

pub returns-then-is_stuck-clause-stands : goal.returns-then-is_stuck-clause-stands
returns-then-is_stuck-clause-stands g c =
    let done = tried_all g (goal.at.returns-then-is_stuck-clause-stands g c).After-is_stuck in
    let low = done.within in
    stands_still c.args.closed.model.now c.args.parameters.limit c.scans.routes c.advance.new.routes c.scans.state
    c.advance.new.self (c.scans.state.at.used + c.in-Complete.length) done.routes_are done.at_is _ _ c.scans.invariant.stands
    c.in_ok-ended.ensures.judge.holds (omega arith) (omega (arith, low, c.scans.invariant.stands.going.used))

pub returns-in-Cut-clause-stopped : goal.returns-in-Cut-clause-stopped
returns-in-Cut-clause-stopped g c =
    let at = goal.at.returns-in-Cut-clause-stopped g c in
    let done = ran_out g at.In-Cut in
    stops_still c.args.closed.model.now c.args.parameters.limit c.scans.routes c.advance.new.routes c.scans.state c.advance.new.self
    c.args.parameters.limit.tries done.routes_are done.at_is (λ w. (goal.Watch-dyn g (w.vtable, w.value)).after w.value)
    (guided_from_state c.args.closed.model.now c.args.parameters.limit c.args.parameters.lambda c.args.routes.now.lists c.args.state.now) Tries _ _
    (goes_to_cut c.args.closed.model.now c.args.parameters.limit c.args.parameters.lambda (counted c.scans.state.penalties) c.scans.state.best.routes.lists
    c.scans.routes c.advance.new.routes c.scans.state.at c.advance.new.self (λ w. (goal.Watch-dyn g (w.vtable, w.value)).after w.value)
    (guided_from_state c.args.closed.model.now c.args.parameters.limit c.args.parameters.lambda c.args.routes.now.lists c.args.state.now)
    _ _ (left g at.In_ok-ended) (ran_out g at.In-Cut) c.scans.invariant.stands.going.used)

pub returns-in-Cut-clause-asked : goal.returns-in-Cut-clause-asked
returns-in-Cut-clause-asked g c =
    on_then _ _ _ _ _ _ c.scans.invariant.asked c.in_ok-ended.ensures.asked

pub returns-in-Cut-clause-stands : goal.returns-in-Cut-clause-stands
returns-in-Cut-clause-stands g c =
    let done = ran_out g (goal.at.returns-in-Cut-clause-stands g c).In-Cut in
    stands_still c.args.closed.model.now c.args.parameters.limit c.scans.routes c.advance.new.routes
    c.scans.state c.advance.new.self c.args.parameters.limit.tries done.routes_are done.at_is _ _
    c.scans.invariant.stands c.in_ok-ended.ensures.judge.holds c.scans.invariant.stands.going.used (omega arith)

pub returns-clause-stopped : goal.returns-clause-stopped
returns-clause-stopped g c =
    stops (λ w. (goal.Watch-dyn g (w.vtable, w.value)).after w.value)
    (guided_from_state c.args.closed.model.now c.args.parameters.limit c.args.parameters.lambda c.args.routes.now.lists c.args.state.now)
    c.scans.routes.lists c.scans.state.at c.scans.state.best _ _ Solutions
    (goes_as (λ w. (goal.Watch-dyn g (w.vtable, w.value)).after w.value)
    (guided_from_state c.args.closed.model.now c.args.parameters.limit c.args.parameters.lambda c.args.routes.now.lists c.args.state.now) _ _ _
    _ (enough c.args.closed.model.now c.args.parameters.limit c.args.parameters.lambda (counted c.scans.state.penalties)
    c.scans.routes.lists c.scans.state.best.routes.lists c.scans.state.at.used c.scans.state.at.found
    (same_count c.scans.state.at.found c.args.parameters.limit.solutions c.scans-test.false)) c.scans.invariant.goes)

pub returns-clause-holds : goal.returns-clause-holds
returns-clause-holds g c =
    c.scans.invariant.stands.going.holds
