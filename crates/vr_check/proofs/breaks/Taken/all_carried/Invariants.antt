use Rattle.std.proofs.Common.{◌≡◌, length}
use Rattle.std.specs.List.{list_all}
use Rattle.vr_model.specs.tables.Numbers.{below, from_to}
use Rattle.vr_check.specs.Asked.{asked_line}
use Rattle.vr_check.specs.Breaks.{plan_of_taken}
use Rattle.vr_check.specs.Plans.{carries_breaks}
use Rattle.vr_check.proofs.breaks.Taken.all_carried.Given as goal

abbrev pub invariant-loop-k : goal.invariant-loop-k
invariant-loop-k l = list_all (carries_breaks (asked_line l.self.of.asked) (plan_of_taken l.self)) (from_to l.k (length l.self.of.plan.now.slacks))
    ≡ list_all (carries_breaks (asked_line l.self.of.asked) (plan_of_taken l.self)) (below (length l.self.of.plan.now.slacks))
