use Rattle.std.proofs.Common.{◌≡◌, length}
use Rattle.vr_model.specs.tables.Numbers.{from_to}
use Rattle.vr_check.specs.Findings.{first_finding}
use Rattle.vr_check.specs.Lists.{once_broken_in, once_broken}
use Rattle.vr_check.proofs.lists.repeated.Given as goal

abbrev pub invariant-loop-v : goal.invariant-loop-v
invariant-loop-v l = first_finding (once_broken_in l.lists) (from_to l.v (length l.lists)) ≡ once_broken l.lists
