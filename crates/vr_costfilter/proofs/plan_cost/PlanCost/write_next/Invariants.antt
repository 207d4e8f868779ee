use Rattle.std.proofs.Common.{◌≡◌, false}
use Rattle.vr_costfilter.specs.PlanCosts.{AreCostsAfter, ArePlansLike}
use Rattle.vr_costfilter.proofs.plan_cost.PlanCost.write_next.Given as goal

-- the lists so far are costed
abbrev pub invariant-loop-k : goal.invariant-loop-k
invariant-loop-k l = record {
  like : ArePlansLike l.fn.self l.self;
  unprepared : l.self.is_prepared ≡ false;
  next : AreCostsAfter l.fn.self.model l.routes.lists l.change l.k l.self.next;
}
