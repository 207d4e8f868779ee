use Rattle.std.proofs.Common.{◌≡◌, ◌≤◌, ◌+◌, ◌-◌}
use Rattle.vr_lns.specs.PathLns.{path_lns}
use Rattle.vr_lns.specs.Standing.{HoldValid}
use Rattle.vr_descent.proofs.GoingOn.{Goes}
use Rattle.vr_lns.proofs.SearchLemmas.{from_here}
use Rattle.vr_lns.proofs.searching.search.Given as goal

-- the whole search is the search from here, behind what was told
abbrev pub invariant-rounds : goal.invariant-rounds
invariant-rounds g l = record {
  cutter : l.cutting ≡ l.fn.cutting;
  holds : HoldValid l.fn.cutting.model l.routes l.at.cost;
  knows : g.R.Rebuild.knows l.rebuild l.fn.cutting.model;
  used : l.at.used ≤ l.limit.tries;
  found : l.at.found ≤ l.limit.solutions;
  made : g.R.Rebuild.made l.rebuild ≤ g.R.Rebuild.made l.fn.rebuild + l.at.used;
  goes : Goes (λ w. (goal.Watch-dyn g (w.vtable, w.value)).after w.value) (path_lns l.fn.cutting.model l.fn.routes.lists l.limit l.fn.cutting.most)
      (from_here l.fn.cutting.model l.fn.cutting.most l.limit l.routes.lists l.at.used l.at.found) l.fn.watch.items l.watch.items;
}

abbrev pub decreases-rounds : goal.decreases-rounds
decreases-rounds g l = l.limit.tries - l.at.used
