use Rattle.std.proofs.Common.{◌≡◌, ◌-◌}
use Rattle.std.specs.Prelude.{◌≤ℤ◌}
use Rattle.vr_descent.proofs.GoingOn.{Goes}
use Rattle.vr_known.specs.Blocks.{Learns}
use Rattle.vr_known.specs.Locality.{HasNoGlobalSpans}
use Rattle.vr_descent.specs.Asking.{AsksOn}
use Rattle.vr_descent.specs.Refused.{AreRefused}
use Rattle.vr_guided.specs.Counts.{counted}
use Rattle.vr_guided.specs.Guides.{makes_less}
use Rattle.vr_guided.specs.RouteSums.{AreAllRouteSums}
use Rattle.vr_guided.specs.Standing.{GuidedStands, guided_from_state}
use Rattle.vr_guided.proofs.searching.search.Given as goal

-- the whole search is the search from here, behind what was told
abbrev pub invariant-scans : goal.invariant-scans
invariant-scans g l = record {
  model : g.J.Judge.model l.judge ≡ l.closed.model.now;
  stands : GuidedStands l.closed.model.now l.parameters.limit (g.J.Judge.committed l.judge) l.routes l.state;
  route_sums : AreAllRouteSums l.closed.model.now (counted l.state.penalties) l.routes.lists l.state.route_sums;
  asked : AsksOn g.J.Judge.asked g.J.Judge.looked l.fn.judge l.judge l.fn.state.at.used l.state.at.used;
  no_dearer : l.state.best.cost ≤ℤ l.fn.state.best.cost;
  goes : Goes (λ w. (goal.Watch-dyn g (w.vtable, w.value)).after w.value)
      (guided_from_state l.closed.model.now l.parameters.limit l.parameters.lambda l.fn.routes.lists l.fn.state)
      (guided_from_state l.closed.model.now l.parameters.limit l.parameters.lambda l.routes.lists l.state) l.fn.watch.items l.watch.items;
  known : AreRefused l.closed.model.now (makes_less l.closed.model.now l.parameters.lambda (counted l.state.penalties)) l.routes.lists l.known;
  learns : Learns l.known → HasNoGlobalSpans l.closed.model.now;
}

abbrev pub decreases-scans : goal.decreases-scans
decreases-scans g l = l.parameters.limit.tries - l.state.at.used
