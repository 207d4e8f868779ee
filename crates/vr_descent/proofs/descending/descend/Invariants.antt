use Rattle.std.proofs.Common.{◌≡◌, ◌-◌}
use Rattle.vr_routes.specs.Judging.{HasCommitted}
use Rattle.vr_descent.specs.Asking.{AsksFor}
use Rattle.vr_descent.specs.Scanned.{takes_less}
use Rattle.vr_known.specs.Blocks.{Learns}
use Rattle.vr_known.specs.Locality.{HasNoGlobalSpans}
use Rattle.vr_descent.specs.Refused.{AreRefused}
use Rattle.vr_descent.proofs.DescentStands.{Descends}
use Rattle.vr_descent.proofs.descending.descend.Given as goal

-- the whole descent is the descent from here, behind what was told
abbrev pub invariant-scans : goal.invariant-scans
invariant-scans g l = record {
  model : g.J.Judge.model l.judge ≡ l.model;
  holds : HasCommitted l.model (g.J.Judge.committed l.judge) l.routes;
  descends : Descends (λ w. (goal.Watch-dyn g (w.vtable, w.value)).after w.value)
      l.model l.limit l.fn.routes.lists l.fn.watch.items l.watch.items l.routes l.at;
  asked : AsksFor g.J.Judge.asked g.J.Judge.looked l.fn.judge l.judge l.at.used;
  known : AreRefused l.model takes_less l.routes.lists l.known;
  learns : Learns l.known → HasNoGlobalSpans l.model;
}

abbrev pub decreases-scans : goal.decreases-scans
decreases-scans g l = l.limit.tries - l.at.used
