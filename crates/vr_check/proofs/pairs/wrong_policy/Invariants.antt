use Rattle.std.proofs.Common.{◌≡◌, length}
use Rattle.vr_model.specs.tables.Numbers.{from_to}
use Rattle.vr_check.specs.Findings.{first_finding}
use Rattle.vr_check.specs.Pairs.{policy_broken_in, policy_broken}
use Rattle.vr_check.proofs.pairs.wrong_policy.Given as goal

abbrev pub invariant-loop-v : goal.invariant-loop-v
invariant-loop-v l = first_finding (policy_broken_in l.closed.model.now l.lists) (from_to l.v (length l.lists)) ≡ policy_broken l.closed.model.now l.lists
