use Rattle.std.proofs.Common.{◌≡◌, length}
use Rattle.vr_model.specs.tables.Numbers.{from_to}
use Rattle.vr_check.specs.Findings.{first_finding}
use Rattle.vr_printed.specs.Printed.{plan_of}
use Rattle.vr_check.specs.Asked.{asked_line}
use Rattle.vr_check.specs.Plans.{cumul_broken_at, cumul_broken}
use Rattle.vr_check.proofs.plans.refused_cumul.Given as goal

abbrev pub invariant-loop-k : goal.invariant-loop-k
invariant-loop-k l =
    first_finding (cumul_broken_at (asked_line l.of.asked) l.of.asked.v (plan_of l.of.plan.now)) (from_to l.k (length l.of.plan.now.cumuls))
    ≡ cumul_broken (asked_line l.of.asked) l.of.asked.v (plan_of l.of.plan.now)
