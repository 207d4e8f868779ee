use Rattle.std.proofs.Common.{◌≡◌, length}
use Rattle.vr_model.specs.tables.Numbers.{from_to}
use Rattle.vr_check.specs.Findings.{first_finding}
use Rattle.vr_check.specs.Pairs.{pair_broken_at, pair_broken}
use Rattle.vr_check.proofs.pairs.wrong_pair.Given as goal

abbrev pub invariant-loop-p : goal.invariant-loop-p
invariant-loop-p l = first_finding (pair_broken_at l.model l.lists) (from_to l.p (length l.model.pairs)) ≡ pair_broken l.model l.lists
