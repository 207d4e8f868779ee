use Rattle.std.proofs.Common.{◌≡◌, ◌∙◌, [], ◌∷◌, sym, ap, subst, arith}
use Rattle.vr_model.specs.declared.records.End.TheVariants.{Solutions}
use Rattle.vr_model.proofs.tables.Refusals.{on_err}
use Rattle.vr_model.proofs.tables.Tests.{apart}
use Rattle.vr_watch.specs.Told.{Reported, ReportedInPart}
use Rattle.vr_watch.proofs.ToldLemmas.{none_behind, told_nothing}
use Rattle.vr_descent.proofs.Beginnings.{cost_read, first, first_event, first_in_part, first_told}
use Rattle.vr_descent.proofs.DescentLemmas.{same_count}
use Rattle.vr_descent.proofs.GoingOn.{goes_as}
use Rattle.vr_lns.specs.Ending.{SearchEndsAs}
use Rattle.vr_lns.specs.PathLns.{path_lns}
use Rattle.vr_lns.specs.Standing.{round_events, lists_after_round, round_at, round_end, standing_after, HoldValid}
use Rattle.vr_lns.proofs.RoundGave.{RoundGave, cut_made, ends_complete, ends_short}
use Rattle.vr_lns.proofs.SearchLemmas.{at_start, breaks_off_at, ends_as, from_here, goes_on, left_after, on_enough, on_round, standing}
use Rattle.vr_lns.proofs.searching.search.Given.{Over}
use Rattle.vr_lns.proofs.searching.search.Goals.{In_ok-ended}
use Rattle.vr_lns.proofs.searching.search.Goals as goal

-- what the search has after a round
gave : (g : Over) (c : In_ok-ended g) → RoundGave (λ w. (goal.Watch-dyn g (w.vtable, w.value)).after w.value)
    (path_lns c.args.cutting.now.model c.args.routes.now.lists c.args.limit c.args.cutting.now.most) c.args.cutting.now.model
    c.args.cutting.now.most c.args.limit c.rounds.routes.lists c.advance.new.routes.lists c.rounds.at c.advance.new.at c.args.watch.now.items
    c.advance.new.watch.items (round_at c.args.cutting.now.model c.args.cutting.now.most c.args.limit c.rounds.routes.lists c.rounds.at.used)
gave g c = record {
  at_is = c.in_ok-ended.ensures.standing
      ∙ ap (λ q. standing_after q.model c.args.limit c.rounds.at (round_at q.model q.most c.args.limit c.rounds.routes.lists c.rounds.at.used))
      c.rounds.invariant.cutter;
  lists_are = c.in_ok-ended.ensures.lists
      ∙ ap (λ q. lists_after_round c.rounds.routes.lists (round_at q.model q.most c.args.limit c.rounds.routes.lists c.rounds.at.used))
      c.rounds.invariant.cutter;
  goes = goes_on (λ w. (goal.Watch-dyn g (w.vtable, w.value)).after w.value)
      (path_lns c.args.cutting.now.model c.args.routes.now.lists c.args.limit c.args.cutting.now.most)
      (from_here c.args.cutting.now.model c.args.cutting.now.most c.args.limit c.rounds.routes.lists c.rounds.at.used c.rounds.at.found)
      (left_after c.args.cutting.now.model c.args.cutting.now.most c.args.limit c.rounds.routes.lists c.rounds.at.used c.rounds.at.found
      (round_at c.args.cutting.now.model c.args.cutting.now.most c.args.limit c.rounds.routes.lists c.rounds.at.used))
      (round_events c.args.cutting.now.model c.rounds.at.used
      (round_at c.args.cutting.now.model c.args.cutting.now.most c.args.limit c.rounds.routes.lists c.rounds.at.used)) _ _
      _ (on_round c.args.cutting.now.model c.args.cutting.now.most c.args.limit c.rounds.routes.lists c.rounds.at.used
      c.rounds.at.found (apart c.rounds.at.found c.args.limit.solutions c.rounds-test.true)) c.rounds.invariant.goes
      (subst (λ q. Reported (λ w. (goal.Watch-dyn g (w.vtable, w.value)).after w.value) c.rounds.watch.items c.advance.new.watch.items
      (round_events q.model c.rounds.at.used (round_at q.model q.most c.args.limit c.rounds.routes.lists c.rounds.at.used)))
      c.rounds.invariant.cutter c.in_ok-ended.ensures.told);
}

-- how the round ends
ends : (g : Over) (c : In_ok-ended g)
    → c.in_ok-ended.ended ≡ round_end (round_at c.args.cutting.now.model c.args.cutting.now.most c.args.limit c.rounds.routes.lists c.rounds.at.used)
ends g c = c.in_ok-ended.ensures.ends
    ∙ ap (λ q. round_end (round_at q.model q.most c.args.limit c.rounds.routes.lists c.rounds.at.used)) c.rounds.invariant.cutter

pub returns-in_err-cost-clause-told_in_part : goal.returns-in_err-cost-clause-told_in_part
returns-in_err-cost-clause-told_in_part g c =
    on_err c.from_residual.result (none_behind (λ w. (goal.Watch-dyn g (w.vtable, w.value)).after w.value) _ _ [] _ (told_nothing _ _))

pub returns-in_err-know-clause-told_in_part : goal.returns-in_err-know-clause-told_in_part
returns-in_err-know-clause-told_in_part g c =
    on_err c.from_residual-in_err-know.result (none_behind (λ w. (goal.Watch-dyn g (w.vtable, w.value)).after w.value) _ _ [] _ (told_nothing _ _))

pub returns-in_err-know-clause-made_at_most : goal.returns-in_err-know-clause-made_at_most
returns-in_err-know-clause-made_at_most g c =
    on_err c.from_residual-in_err-know.result (omega (arith, c.in_err-know.ensures.made))

pub returns-in_err-note_all-clause-told_in_part : goal.returns-in_err-note_all-clause-told_in_part
returns-in_err-note_all-clause-told_in_part g c =
    on_err c.from_residual-in_err-note_all.result
    (first_in_part (λ w. (goal.Watch-dyn g (w.vtable, w.value)).after w.value)
    (path_lns c.args.cutting.now.model c.args.routes.now.lists c.args.limit c.args.cutting.now.most)
    (from_here c.args.cutting.now.model c.args.cutting.now.most c.args.limit c.args.routes.now.lists 0 1)
    (first c.args.cutting.now.model c.args.routes.now.lists)
    (at_start c.args.cutting.now.model c.args.cutting.now.most c.args.limit c.args.routes.now.lists) _ _
    (subst
    (λ event. ReportedInPart (λ w. (goal.Watch-dyn g (w.vtable, w.value)).after w.value) c.args.watch.now.items c.note_all.new.watch.items (event ∷ []))
    (first_event c.args.cutting.now.model c.requires.well_formed c.args.routes.now.lists c.requires.valid
    c.in_ok-cost.cost c.in_ok-cost.ensures.value c.event.result c.event.ensures) c.in_err-note_all.ensures.told_in_part))

pub rounds-init : goal.rounds-init
rounds-init g c =
    record {
      cutter = c.in_ok-cost.ensures.cutter;
      holds = record {
        of_model = c.requires.of_model;
        valid = c.requires.valid;
        costs =
            cost_read c.args.cutting.now.model c.requires.well_formed c.args.routes.now.lists c.requires.valid c.in_ok-cost.cost c.in_ok-cost.ensures.value;
      };
      used = omega arith;
      found = c.requires.limit.one_solution;
      knows = subst (λ k. g.R.Rebuild.knows c.know.new.rebuild k.model) c.in_ok-cost.ensures.cutter c.in_ok-know.ensures.knows;
      made = omega (arith, c.in_ok-know.ensures.made);
      goes = first_told (λ w. (goal.Watch-dyn g (w.vtable, w.value)).after w.value)
          (path_lns c.args.cutting.now.model c.args.routes.now.lists c.args.limit c.args.cutting.now.most)
          (from_here c.args.cutting.now.model c.args.cutting.now.most c.args.limit c.args.routes.now.lists 0 1)
          (first c.args.cutting.now.model c.args.routes.now.lists)
          (at_start c.args.cutting.now.model c.args.cutting.now.most c.args.limit c.args.routes.now.lists) _ _
          (subst
          (λ event. Reported (λ w. (goal.Watch-dyn g (w.vtable, w.value)).after w.value) c.args.watch.now.items c.note_all.new.watch.items (event ∷ []))
          (first_event c.args.cutting.now.model c.requires.well_formed c.args.routes.now.lists c.requires.valid
          c.in_ok-cost.cost c.in_ok-cost.ensures.value c.event.result c.event.ensures) c.in_ok-note_all.ensures.told);
    }

pub returns-in_err-ended-clause-told_in_part : goal.returns-in_err-ended-clause-told_in_part
returns-in_err-ended-clause-told_in_part g c =
    on_err c.from_residual-in_err-ended.result
    (breaks_off_at (λ w. (goal.Watch-dyn g (w.vtable, w.value)).after w.value)
    (path_lns c.args.cutting.now.model c.args.routes.now.lists c.args.limit c.args.cutting.now.most)
    (from_here c.args.cutting.now.model c.args.cutting.now.most c.args.limit c.rounds.routes.lists c.rounds.at.used c.rounds.at.found)
    (left_after c.args.cutting.now.model c.args.cutting.now.most c.args.limit c.rounds.routes.lists c.rounds.at.used c.rounds.at.found
    (round_at c.args.cutting.now.model c.args.cutting.now.most c.args.limit c.rounds.routes.lists c.rounds.at.used))
    (round_events c.args.cutting.now.model c.rounds.at.used
    (round_at c.args.cutting.now.model c.args.cutting.now.most c.args.limit c.rounds.routes.lists c.rounds.at.used)) _ _
    _ (on_round c.args.cutting.now.model c.args.cutting.now.most c.args.limit c.rounds.routes.lists c.rounds.at.used
    c.rounds.at.found (apart c.rounds.at.found c.args.limit.solutions c.rounds-test.true)) c.rounds.invariant.goes
    (subst (λ q. ReportedInPart (λ w. (goal.Watch-dyn g (w.vtable, w.value)).after w.value) c.rounds.watch.items c.advance.new.watch.items
    (round_events q.model c.rounds.at.used (round_at q.model q.most c.args.limit c.rounds.routes.lists c.rounds.at.used)))
    c.rounds.invariant.cutter c.in_err-ended.ensures.told_in_part))

pub rounds-smaller : goal.rounds-smaller
rounds-smaller g c =
    let made = cut_made (λ w. (goal.Watch-dyn g (w.vtable, w.value)).after w.value)
    (path_lns c.args.cutting.now.model c.args.routes.now.lists c.args.limit c.args.cutting.now.most) c.args.cutting.now.model c.args.cutting.now.most
    c.args.limit c.rounds.routes.lists c.advance.new.routes.lists c.rounds.at c.advance.new.at _ _ (gave g (goal.at.rounds-smaller g c).In_ok-ended)
    c.in_ok-ended.ended (ends g (goal.at.rounds-smaller g c).In_ok-ended) c.in-Accepted.place c.in-Accepted.is in
    let falls = made.falls in
    omega (arith, falls)

pub rounds-preserved : goal.rounds-preserved
rounds-preserved g c =
    let made = cut_made (λ w. (goal.Watch-dyn g (w.vtable, w.value)).after w.value)
    (path_lns c.args.cutting.now.model c.args.routes.now.lists c.args.limit c.args.cutting.now.most) c.args.cutting.now.model c.args.cutting.now.most
    c.args.limit c.rounds.routes.lists c.advance.new.routes.lists c.rounds.at c.advance.new.at _ _ (gave g (goal.at.rounds-preserved g c).In_ok-ended)
    c.in_ok-ended.ended (ends g (goal.at.rounds-preserved g c).In_ok-ended) c.in-Accepted.place c.in-Accepted.is in
    let found = made.found in
    record {
      cutter = c.in_ok-ended.ensures.cutter ∙ c.rounds.invariant.cutter;
      holds = subst (λ q. HoldValid q.model c.advance.new.routes c.advance.new.at.cost) c.rounds.invariant.cutter c.in_ok-ended.ensures.holds;
      used = made.used;
      found = omega (arith, found, c.rounds.invariant.found, c.rounds-test.true);
      knows = subst (λ q. g.R.Rebuild.knows c.advance.new.rebuild q.model) c.rounds.invariant.cutter c.in_ok-ended.ensures.knows;
      made = omega (arith, c.in_ok-ended.ensures.made, c.rounds.invariant.made);
      goes = made.goes;
    }

pub returns-in-Complete-clause-ends : goal.returns-in-Complete-clause-ends
returns-in-Complete-clause-ends g c =
    ends_complete (λ w. (goal.Watch-dyn g (w.vtable, w.value)).after w.value)
    (path_lns c.args.cutting.now.model c.args.routes.now.lists c.args.limit c.args.cutting.now.most)
    c.args.cutting.now.model c.args.cutting.now.most c.args.limit c.rounds.routes.lists c.advance.new.routes.lists
    c.rounds.at c.advance.new.at _ _ (gave g (goal.at.returns-in-Complete-clause-ends g c).In_ok-ended) c.in_ok-ended.ended
    (ends g (goal.at.returns-in-Complete-clause-ends g c).In_ok-ended) c.in-Complete.length c.in-Complete.is c.report.result c.report.ensures

pub returns-in-Short-clause-ends : goal.returns-in-Short-clause-ends
returns-in-Short-clause-ends g c =
    ends_short (λ w. (goal.Watch-dyn g (w.vtable, w.value)).after w.value)
    (path_lns c.args.cutting.now.model c.args.routes.now.lists c.args.limit c.args.cutting.now.most)
    c.args.cutting.now.model c.args.cutting.now.most c.args.limit c.rounds.routes.lists c.advance.new.routes.lists
    c.rounds.at c.advance.new.at _ _ (gave g (goal.at.returns-in-Short-clause-ends g c).In_ok-ended) c.in_ok-ended.ended
    (ends g (goal.at.returns-in-Short-clause-ends g c).In_ok-ended) c.rounds.invariant.used c.in-Short.is c.report-in-Short.result c.report-in-Short.ensures

pub returns-clause-ends : goal.returns-clause-ends
returns-clause-ends g c =
    subst (SearchEndsAs (λ w. (goal.Watch-dyn g (w.vtable, w.value)).after w.value)
    (path_lns c.args.cutting.now.model c.args.routes.now.lists c.args.limit c.args.cutting.now.most)
    c.rounds.routes.lists c.args.watch.now.items c.rounds.watch.items) (sym c.report-2.ensures)
    (ends_as (λ w. (goal.Watch-dyn g (w.vtable, w.value)).after w.value)
    (path_lns c.args.cutting.now.model c.args.routes.now.lists c.args.limit c.args.cutting.now.most)
    (standing c.args.cutting.now.model c.args.cutting.now.most c.args.limit c.rounds.routes.lists c.rounds.at.used c.rounds.at.found) Solutions _ _
    (goes_as (λ w. (goal.Watch-dyn g (w.vtable, w.value)).after w.value)
    (path_lns c.args.cutting.now.model c.args.routes.now.lists c.args.limit c.args.cutting.now.most) _ _ _ _
    (on_enough c.args.cutting.now.model c.args.cutting.now.most c.args.limit c.rounds.routes.lists c.rounds.at.used
    c.rounds.at.found (same_count c.rounds.at.found c.args.limit.solutions c.rounds-test.false)) c.rounds.invariant.goes))
