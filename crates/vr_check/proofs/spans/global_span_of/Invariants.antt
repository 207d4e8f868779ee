use Rattle.std.proofs.Common.{◌≡◌, length}
use Rattle.std.specs.Prelude.{filter}
use Rattle.vr_model.specs.tables.Numbers.{from_to}
use Rattle.vr_model.specs.routes.Costs.{global_span}
use Rattle.vr_printed.specs.Printed.{assignment_of}
use Rattle.vr_check.proofs.PlanSums.{is_used, span_from}
use Rattle.vr_check.proofs.spans.global_span_of.Given as goal

-- the ends so far and those of the vehicles that are left
abbrev pub invariant-loop-v : goal.invariant-loop-v
invariant-loop-v l = span_from (assignment_of l.routes) l.d l.ends (filter (is_used l.routes) (from_to l.v (length l.routes)))
    ≡ global_span (assignment_of l.routes) l.d
