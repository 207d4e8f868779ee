use Rattle.std.proofs.Common.{◌+◌, ◌≤◌, length, sym, subst}
use Rattle.vr_reach.specs.DrivenRows.{IsReachedOn}
use Rattle.vr_reach.specs.Lists.{IsUsed}
use Rattle.vr_reach.specs.Standing.{IsReachedAt}
use Rattle.vr_reach.proofs.AskedLemmas.{asked_so, so_asked}
use Rattle.vr_reach.proofs.standing.go_on.Goals as goal

pub asked_of-asked-requires-clause-used : goal.asked_of-asked-requires-clause-used
asked_of-asked-requires-clause-used c = subst (IsUsed c.args.stops.now.closed.model.now) (sym c.whole-whole.ensures) c.requires.used

pub cross_arc-requires-clause-stop : goal.cross_arc-requires-clause-stop
cross_arc-requires-clause-stop c = asked_so c.whole-whole.ensures c.asked_of-asked.ensures (λ m d v l. c.args.k ≤ length l) c.requires.stop

pub cross_arc-requires-clause-from : goal.cross_arc-requires-clause-from
cross_arc-requires-clause-from c =
    asked_so c.whole-whole.ensures c.asked_of-asked.ensures (λ m d v l. IsReachedAt m d v l c.args.k c.args.here.now) c.requires.here

pub returns : goal.returns
returns c =
    so_asked c.whole-whole.ensures c.asked_of-asked.ensures (λ m d v l. IsReachedAt m d v l (c.args.k + 1) c.hand_over.new.levels)
    (subst (IsReachedOn c.asked_of-asked.result.of (c.args.k + 1)) (sym c.hand_over.ensures) c.in_ok-cross_arc.ensures)
