use Rattle.std.proofs.Common.{◌≡◌, ◌<◌, ◌≤◌, ◌+◌, ℕ, length, take}
use Rattle.vr_costfilter.specs.SortedEnds.{AreOrders}
use Rattle.vr_costfilter.specs.GlobalCosts.{orders_at, Pays}
use Rattle.vr_costfilter.proofs.reaches.set_list.Given as goal

-- the vehicle has its list in the dimensions so far
abbrev pub invariant-loop-d : goal.invariant-loop-d
invariant-loop-d l = record {
  many : length l.orders ≡ length l.closed.model.now.dimensions;
  done : (d : ℕ) → d < l.d → d < length l.closed.model.now.dimensions → Pays l.closed.model.now d
      → AreOrders l.closed.model.now d (take (l.v + 1) l.routes.lists) (orders_at l.orders d);
  left : (d : ℕ) → l.d ≤ d → d < length l.closed.model.now.dimensions → Pays l.closed.model.now d
      → AreOrders l.closed.model.now d (take l.v l.routes.lists) (orders_at l.orders d);
}
