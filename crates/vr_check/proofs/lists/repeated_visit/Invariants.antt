use Rattle.std.proofs.Common.{◌≡◌, length}
use Rattle.vr_model.specs.tables.Numbers.{from_to}
use Rattle.vr_check.specs.Findings.{first_finding}
use Rattle.vr_check.specs.Lists.{once_broken_at, once_broken_of}
use Rattle.vr_check.proofs.lists.repeated_visit.Given as goal

abbrev pub invariant-loop-k : goal.invariant-loop-k
invariant-loop-k l = first_finding (once_broken_at l.lists l.vehicle l.list) (from_to l.k (length l.list)) ≡ once_broken_of l.lists l.vehicle l.list
