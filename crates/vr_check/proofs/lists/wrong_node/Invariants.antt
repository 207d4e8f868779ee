use Rattle.std.proofs.Common.{◌≡◌, length}
use Rattle.vr_model.specs.tables.Numbers.{from_to}
use Rattle.vr_check.specs.Findings.{first_finding}
use Rattle.vr_check.specs.Lists.{ends_broken_at, ends_broken_of}
use Rattle.vr_check.proofs.lists.wrong_node.Given as goal

abbrev pub invariant-loop-k : goal.invariant-loop-k
invariant-loop-k l = first_finding (ends_broken_at l.model l.vehicle l.nodes) (from_to l.k (length l.nodes)) ≡ ends_broken_of l.model l.vehicle l.nodes
