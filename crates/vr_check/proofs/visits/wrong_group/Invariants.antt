use Rattle.std.proofs.Common.{◌≡◌, length}
use Rattle.vr_model.specs.tables.Numbers.{from_to}
use Rattle.vr_check.specs.Findings.{first_finding}
use Rattle.vr_check.specs.Visits.{group_broken_at, group_broken}
use Rattle.vr_check.proofs.visits.wrong_group.Given as goal

abbrev pub invariant-loop-k : goal.invariant-loop-k
invariant-loop-k l = first_finding (group_broken_at l.model l.lists) (from_to l.k (length l.model.groups)) ≡ group_broken l.model l.lists
