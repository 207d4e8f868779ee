use Rattle.std.proofs.Common.{◌^◌}
use Rattle.vr_check.specs.Terms.{global_cost}
use Rattle.vr_printed.specs.Printed.{assignment_of}
use Rattle.vr_check.proofs.Totalling.{IsSum}
use Rattle.vr_check.proofs.spans.global_of.Given as goal

abbrev pub invariant-loop-d : goal.invariant-loop-d
invariant-loop-d l = IsSum (global_cost l.solution.closed.model.now (assignment_of l.solution.routes.now)) (2 ^ 106) l.d l.total
