use Rattle.std.proofs.Common.{◌^◌}
use Rattle.vr_check.specs.Totals.{plan_cost}
use Rattle.vr_check.proofs.Totalling.{IsSum}
use Rattle.vr_check.proofs.totals.over_plans.Given as goal

abbrev pub invariant-loop-d : goal.invariant-loop-d
invariant-loop-d l = IsSum (plan_cost l.part l.on.closed.model.now l.on.v l.on.route.now) (2 ^ 116) l.d l.total
