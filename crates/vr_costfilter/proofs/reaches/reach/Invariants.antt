use Rattle.std.proofs.Common.{◌≡◌, take}
use Rattle.std.specs.Prelude.{fold, IfSome}
use Rattle.vr_plan.specs.Extents.{IsExtentInRange}
use Rattle.vr_costfilter.specs.SortedEnds.{beside, extent_but}
use Rattle.vr_costfilter.specs.GlobalCosts.{timing_in}
use Rattle.vr_costfilter.proofs.reaches.reach.Given as goal

-- the rows so far are told
abbrev pub invariant-loop-k : goal.invariant-loop-k
invariant-loop-k l = record {
  value : l.extent ≡ fold (λ extent row. beside extent (timing_in l.d row)) (extent_but l.vehicles l.orders) (take l.k l.next);
  range : IfSome l.extent IsExtentInRange;
}
