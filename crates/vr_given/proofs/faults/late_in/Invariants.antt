use Rattle.std.proofs.Common.{◌≡◌, length}
use Rattle.vr_model.specs.tables.Numbers.{from_to}
use Rattle.vr_check.specs.Findings.{first_finding}
use Rattle.vr_given.specs.ListFaults.{schedule_broken_at, schedule_broken_of}
use Rattle.vr_given.proofs.faults.late_in.Given as goal

abbrev pub invariant-loop-d : goal.invariant-loop-d
invariant-loop-d l = first_finding (schedule_broken_at l.lookups.closed.model.now l.v l.list) (from_to l.d (length l.lookups.closed.model.now.dimensions))
    ≡ schedule_broken_of l.lookups.closed.model.now l.v l.list
