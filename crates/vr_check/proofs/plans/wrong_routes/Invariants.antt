use Rattle.std.proofs.Common.{◌≡◌, length}
use Rattle.vr_model.specs.tables.Numbers.{from_to}
use Rattle.vr_check.specs.Findings.{first_finding}
use Rattle.vr_check.specs.Plans.{route_broken_at, routes_broken}
use Rattle.vr_check.proofs.plans.wrong_routes.Given as goal

abbrev pub invariant-loop-v : goal.invariant-loop-v
invariant-loop-v l = first_finding (route_broken_at l.rule l.solution.closed.model.now l.solution.routes.now) (from_to l.v (length l.solution.routes.now))
    ≡ routes_broken l.rule l.solution.closed.model.now l.solution.routes.now
