use Rattle.std.proofs.Common.{◌^◌}
use Rattle.vr_check.specs.Totals.{part_of}
use Rattle.vr_check.proofs.Totalling.{IsSum}
use Rattle.vr_check.proofs.totals.over_routes.Given as goal

abbrev pub invariant-loop-v : goal.invariant-loop-v
invariant-loop-v l = IsSum (part_of l.part l.solution) (2 ^ 118) l.v l.total
