use Rattle.std.proofs.Common.{◌≡◌, ◌+◌, ◌≤◌, suc, length, sym, subst, arith}
use Rattle.std.specs.Prelude.{IfOk, IfSome}
use Rattle.vr_model.specs.schedules.Choices.{is_feasible}
use Rattle.vr_model.specs.schedules.Lines.{line}
use Rattle.vr_reach.specs.Lists.{IsUsed}
use Rattle.vr_reach.specs.VisitRuns.{AreVisitRuns}
use Rattle.vr_reach.proofs.AskedLemmas.{asked_so, begun_as_asked, met_as_asked, so_asked}
use Rattle.vr_reach.specs.KnownRows.{IsReachingFrom}
use Rattle.vr_reach.proofs.Transfer.{ended_at, started_at}
use Rattle.vr_reach.proofs.walking.goes_through.Goals as goal

pub asked_of-asked-requires-clause-used : goal.asked_of-asked-requires-clause-used
asked_of-asked-requires-clause-used c = subst (IsUsed c.args.stops.now.closed.model.now) (sym c.whole-whole.ensures) c.requires.used

pub invariant_of-leg : goal.invariant_of-leg
invariant_of-leg c =
    let ends = c.asked_of-asked.result.ends.now in
    let are = c.asked_of-asked.ensures.ends_are in
    let last : suc (length c.args.list.now) ≡ length c.args.list.now + 1 = omega arith in
    record {
      runs_are = asked_so c.whole-whole.ensures c.asked_of-asked.ensures
          (λ m d v l. IfSome c.runs-runs.result (λ found. AreVisitRuns m d v found.now)) c.runs-runs.ensures.runs;
      order = omega arith;
      within = asked_so c.whole-whole.ensures c.asked_of-asked.ensures (λ m d v l. length c.args.list.now + 1 ≤ suc (length l)) (omega arith);
      begun = begun_as_asked c.whole-whole.ensures c.asked_of-asked.ensures 0 ends.start_levels
          (started_at c.args.stops.now.closed.model.now c.args.stops.now.d c.args.stops.now.v c.args.list.now ends are c.requires.used);
      met = met_as_asked c.whole-whole.ensures c.asked_of-asked.ensures (length c.args.list.now + 1) ends.end_levels
          (subst (λ k. IsReachingFrom c.args.stops.now.closed.model.now c.args.stops.now.d c.args.stops.now.v c.args.list.now k ends.end_levels)
          last (ended_at c.args.stops.now.closed.model.now c.args.stops.now.d c.args.stops.now.v c.args.list.now ends are c.requires.used));
    }

pub returns : goal.returns
returns c = so_asked c.whole-whole.ensures c.asked_of-asked.ensures
    (λ m d v l. IfOk c.goes_along.result (λ goes. goes ≡ is_feasible (line m d v l))) c.goes_along.ensures
