use Rattle.std.proofs.Common.{◌≡◌, length}
use Rattle.vr_model.specs.tables.Numbers.{from_to}
use Rattle.vr_check.specs.Findings.{first_finding}
use Rattle.vr_check.specs.Plans.{plan_broken_in, route_broken}
use Rattle.vr_check.proofs.plans.wrong_route.Given as goal

abbrev pub invariant-loop-d : goal.invariant-loop-d
invariant-loop-d l = first_finding (plan_broken_in l.rule l.on.closed.model.now l.on.v l.on.route.now) (from_to l.d (length l.on.route.now.plans))
    ≡ route_broken l.rule l.on.closed.model.now l.on.v l.on.route.now
