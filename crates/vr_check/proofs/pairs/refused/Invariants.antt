use Rattle.std.proofs.Common.{◌≡◌, length}
use Rattle.vr_model.specs.tables.Numbers.{from_to}
use Rattle.vr_check.specs.Findings.{first_finding}
use Rattle.vr_check.specs.Pairs.{allowed_broken_in, allowed_broken}
use Rattle.vr_check.proofs.pairs.refused.Given as goal

abbrev pub invariant-loop-v : goal.invariant-loop-v
invariant-loop-v l = first_finding (allowed_broken_in l.closed.model.now l.lists) (from_to l.v (length l.lists)) ≡ allowed_broken l.closed.model.now l.lists
