use Rattle.std.proofs.Common.{◌≡◌, ◌-◌}
use Rattle.std.specs.Prelude.{◌≤ℤ◌}
use Rattle.vr_descent.proofs.GoingOn.{Goes}
use Rattle.vr_descent.specs.Asking.{AsksOn}
use Rattle.vr_tabu.specs.Standing.{TabuStands, tabu_from_state}
use Rattle.vr_tabu.proofs.searching.search.Given as goal

-- the whole search is the search from here, behind what was told
abbrev pub invariant-rounds : goal.invariant-rounds
invariant-rounds g l = record {
  model : g.J.Judge.model l.judge ≡ l.closed.model.now;
  stands : TabuStands l.closed.model.now l.parameters (g.J.Judge.committed l.judge) l.routes l.state;
  asked : AsksOn g.J.Judge.asked g.J.Judge.looked l.fn.judge l.judge l.fn.state.at.used l.state.at.used;
  no_dearer : l.state.best.cost ≤ℤ l.fn.state.best.cost;
  goes : Goes (λ w. (goal.Watch-dyn g (w.vtable, w.value)).after w.value) (tabu_from_state l.closed.model.now l.parameters l.fn.routes.lists l.fn.state)
      (tabu_from_state l.closed.model.now l.parameters l.routes.lists l.state) l.fn.watch.items l.watch.items;
}

abbrev pub decreases-rounds : goal.decreases-rounds
decreases-rounds g l = l.parameters.limit.tries - l.state.at.used
