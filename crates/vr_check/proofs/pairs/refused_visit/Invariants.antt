use Rattle.std.proofs.Common.{◌≡◌, length}
use Rattle.vr_model.specs.tables.Numbers.{from_to}
use Rattle.vr_check.specs.Findings.{first_finding}
use Rattle.vr_check.specs.Pairs.{allowed_broken_at, allowed_broken_of}
use Rattle.vr_check.proofs.pairs.refused_visit.Given as goal

abbrev pub invariant-loop-k : goal.invariant-loop-k
invariant-loop-k l = first_finding (allowed_broken_at l.model l.v l.list) (from_to l.k (length l.list)) ≡ allowed_broken_of l.model l.v l.list
