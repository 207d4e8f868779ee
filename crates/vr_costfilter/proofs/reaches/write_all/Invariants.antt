use Rattle.std.proofs.Common.{◌≡◌, ◌<◌, ℕ, List, length}
use Rattle.vr_routes.specs.Pieces.{changed}
use Rattle.vr_costfilter.specs.SortedEnds.{AreOrders}
use Rattle.vr_costfilter.specs.GlobalCosts.{orders_at, AreNextRows, Pays}
use Rattle.vr_costfilter.proofs.reaches.write_all.Given as goal

-- the dimensions so far are written
abbrev pub invariant-loop-d : goal.invariant-loop-d
invariant-loop-d l = record {
  many : length l.out ≡ length l.closed.model.now.dimensions;
  done : (lists : List (List ℕ)) → AreNextRows l.closed.model.now lists l.change l.orders l.next → (d : ℕ) → d < l.d
      → d < length l.closed.model.now.dimensions → Pays l.closed.model.now d → AreOrders l.closed.model.now d (changed lists l.change) (orders_at l.out d);
}
