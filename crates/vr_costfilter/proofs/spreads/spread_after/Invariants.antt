use Rattle.std.proofs.Common.{◌≡◌, ℕ, List, length, take}
use Rattle.std.specs.Prelude.{fold}
use Rattle.vr_costfilter.specs.EarlyChanges.{IsEarlyOf}
use Rattle.vr_costfilter.specs.SortedEnds.{AreOrders}
use Rattle.vr_costfilter.specs.Spreads.{spread_of_kept, with_changed, IsSpreadInRange}
use Rattle.vr_costfilter.proofs.spreads.spread_after.Given as goal

-- the lists so far are told
abbrev pub invariant-loop-k : goal.invariant-loop-k
invariant-loop-k l = record {
  value : (lists : List (List ℕ)) → IsEarlyOf l.paid.early.now lists → AreOrders l.paid.early.now.model.now l.paid.d lists l.orders
      → l.spread ≡ fold (with_changed l.paid.early.now.model.now lists l.paid.d)
      (spread_of_kept l.paid.early.now.model.now lists l.paid.early.now.change.now l.paid.d (length lists)) (take l.k l.paid.early.now.change.now);
  range : IsSpreadInRange l.spread;
}
