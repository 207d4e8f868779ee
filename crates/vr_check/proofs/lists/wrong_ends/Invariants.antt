use Rattle.std.proofs.Common.{◌≡◌, length}
use Rattle.vr_model.specs.tables.Numbers.{from_to}
use Rattle.vr_check.specs.Findings.{first_finding}
use Rattle.vr_check.specs.Lists.{ends_broken_in, ends_broken}
use Rattle.vr_check.proofs.lists.wrong_ends.Given as goal

abbrev pub invariant-loop-v : goal.invariant-loop-v
invariant-loop-v l = first_finding (ends_broken_in l.closed.model.now l.routes) (from_to l.v (length l.routes)) ≡ ends_broken l.closed.model.now l.routes
