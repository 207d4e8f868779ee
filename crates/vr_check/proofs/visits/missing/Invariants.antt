use Rattle.std.proofs.Common.{◌≡◌}
use Rattle.vr_model.specs.tables.Numbers.{from_to}
use Rattle.vr_check.specs.Findings.{first_finding}
use Rattle.vr_check.specs.Visits.{required_broken_at, required_broken}
use Rattle.vr_check.proofs.visits.missing.Given as goal

abbrev pub invariant-loop-node : goal.invariant-loop-node
invariant-loop-node l = first_finding (required_broken_at l.model l.lists) (from_to l.node l.model.nodes) ≡ required_broken l.model l.lists
