use Rattle.std.proofs.Common.{◌^◌}
use Rattle.vr_check.specs.Terms.{soft_at}
use Rattle.vr_check.specs.Asked.{stop_rows_of}
use Rattle.vr_check.proofs.Totalling.{IsSum}
use Rattle.vr_check.proofs.softs.soft_of_plan.Given as goal

abbrev pub invariant-loop-k : goal.invariant-loop-k
invariant-loop-k l = IsSum (soft_at (stop_rows_of l.of.asked) l.of.plan.now.cumuls) (2 ^ 106) l.k l.total
