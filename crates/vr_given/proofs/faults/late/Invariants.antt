use Rattle.std.proofs.Common.{◌≡◌, length}
use Rattle.vr_model.specs.tables.Numbers.{from_to}
use Rattle.vr_check.specs.Findings.{first_finding}
use Rattle.vr_given.specs.ListFaults.{schedule_broken, schedule_broken_in}
use Rattle.vr_given.proofs.faults.late.Given as goal

abbrev pub invariant-loop-v : goal.invariant-loop-v
invariant-loop-v l = first_finding (schedule_broken_in l.lookups.closed.model.now l.lists) (from_to l.v (length l.lists))
    ≡ schedule_broken l.lookups.closed.model.now l.lists
