use Rattle.std.proofs.Common.{◌+◌, ◌-◌, length}
use Rattle.vr_span.proofs.PassLemmas.{IsPassing}
use Rattle.vr_span.proofs.crossing.cross.Given as goal

abbrev pub invariant-pass : goal.invariant-pass
invariant-pass l = IsPassing l.hop l.from l.next l.out l.left l.k

abbrev pub decreases-pass : goal.decreases-pass
decreases-pass l = length l.left + (l.runs - l.k)
