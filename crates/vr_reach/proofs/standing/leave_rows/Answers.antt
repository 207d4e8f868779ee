use Rattle.std.proofs.Common.{◌+◌, ◌≤◌, length, sym, subst}
use Rattle.vr_reach.specs.DrivenRows.{IsReachedOn}
use Rattle.vr_reach.specs.Lists.{IsUsed}
use Rattle.vr_reach.specs.Standing.{IsReachedAt}
use Rattle.vr_reach.proofs.AskedLemmas.{asked_so, so_asked}
use Rattle.vr_reach.proofs.Transfer.{left_at, row_before}
use Rattle.vr_reach.proofs.standing.leave_rows.Goals as goal

pub asked_of-asked-requires-clause-used : goal.asked_of-asked-requires-clause-used
asked_of-asked-requires-clause-used c = subst (IsUsed c.args.stops.now.closed.model.now) (sym c.whole-whole.ensures) c.requires.used

pub levels_before-from-requires : goal.levels_before-from-requires
levels_before-from-requires c = record {
  row = row_before c.args.stops.now.closed.model.now c.args.stops.now.d c.args.stops.now.v
      c.args.known.now.list.now c.args.known.now.rows.now c.requires.known c.args.front c.requires.front.within_old;
}

pub cross_arc-requires-clause-stop : goal.cross_arc-requires-clause-stop
cross_arc-requires-clause-stop c = asked_so c.whole-whole.ensures c.asked_of-asked.ensures (λ m d v l. c.args.front ≤ length l) c.requires.front.within_new

pub cross_arc-requires-clause-from : goal.cross_arc-requires-clause-from
cross_arc-requires-clause-from c =
    asked_so c.whole-whole.ensures c.asked_of-asked.ensures (λ m d v l. IsReachedAt m d v l c.args.front c.levels_before-from.result.now)
    (left_at c.args.stops.now.closed.model.now c.args.stops.now.d c.args.stops.now.v c.args.known.now.list.now c.args.new.now
    c.asked_of-asked.result.ends.now c.asked_of-asked.ensures.ends_are c.args.known.now.rows.now c.requires.known c.requires.used
    c.args.front c.requires.front c.levels_before-from.result.now c.levels_before-from.ensures.start c.levels_before-from.ensures.row)

pub returns : goal.returns
returns c =
    so_asked c.whole-whole.ensures c.asked_of-asked.ensures (λ m d v l. IsReachedAt m d v l (c.args.front + 1) c.hand_over.new.levels)
    (subst (IsReachedOn c.asked_of-asked.result.of (c.args.front + 1)) (sym c.hand_over.ensures) c.in_ok-cross_arc.ensures)
