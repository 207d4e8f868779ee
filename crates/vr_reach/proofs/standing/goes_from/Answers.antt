use Rattle.std.proofs.Common.{◌≡◌, ◌+◌, ◌-◌, ◌≤◌, suc, length, sym, subst, arith}
use Rattle.std.specs.Prelude.{IfOk, IfSome}
use Rattle.vr_model.specs.schedules.Choices.{is_feasible}
use Rattle.vr_model.specs.schedules.Lines.{line}
use Rattle.vr_reach.specs.Lists.{IsUsed}
use Rattle.vr_reach.specs.VisitRuns.{AreVisitRuns}
use Rattle.vr_reach.proofs.AskedLemmas.{asked_so, begun_as_asked, met_as_asked, so_asked}
use Rattle.vr_reach.proofs.Transfer.{met_at, row_behind}
use Rattle.vr_reach.proofs.standing.goes_from.Goals as goal

pub asked_of-asked-requires-clause-used : goal.asked_of-asked-requires-clause-used
asked_of-asked-requires-clause-used c = subst (IsUsed c.args.stops.now.closed.model.now) (sym c.whole-whole.ensures) c.requires.used

pub levels_behind-to-requires-clause-row : goal.levels_behind-to-requires-clause-row
levels_behind-to-requires-clause-row c = row_behind c.args.stops.now.closed.model.now c.args.stops.now.d c.args.stops.now.v
    c.args.known.now.list.now c.args.known.now.rows.now c.requires.known c.args.back c.requires.back.within_old

pub invariant_of-leg : goal.invariant_of-leg
invariant_of-leg c =
    let apart = c.requires.apart in
    record {
      runs_are = asked_so c.whole-whole.ensures c.asked_of-asked.ensures
          (λ m d v l. IfSome c.runs-runs.result (λ found. AreVisitRuns m d v found.now)) c.runs-runs.ensures.runs;
      order = omega (arith, apart);
      within = asked_so c.whole-whole.ensures c.asked_of-asked.ensures (λ m d v l. length c.args.new.now - c.args.back + 1 ≤ suc (length l)) (omega arith);
      begun = begun_as_asked c.whole-whole.ensures c.asked_of-asked.ensures c.args.k c.args.here.now c.requires.here;
      met = met_as_asked c.whole-whole.ensures c.asked_of-asked.ensures (length c.args.new.now - c.args.back + 1) c.levels_behind-to.result.now
          (met_at c.args.stops.now.closed.model.now c.args.stops.now.d c.args.stops.now.v c.args.known.now.list.now c.args.new.now
          c.asked_of-asked.result.ends.now c.asked_of-asked.ensures.ends_are c.args.known.now.rows.now c.requires.known c.requires.used
          c.args.back c.requires.back c.levels_behind-to.result.now c.levels_behind-to.ensures.end c.levels_behind-to.ensures.row);
    }

pub returns : goal.returns
returns c = so_asked c.whole-whole.ensures c.asked_of-asked.ensures
    (λ m d v l. IfOk c.goes_along.result (λ goes. goes ≡ is_feasible (line m d v l))) c.goes_along.ensures
