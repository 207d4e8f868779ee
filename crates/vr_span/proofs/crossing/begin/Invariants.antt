use Rattle.std.proofs.Common.{◌≡◌, map, take}
use Rattle.vr_span.specs.Pieces.{begin_of}
use Rattle.vr_span.proofs.crossing.begin.Given as goal

abbrev pub invariant-loop-k : goal.invariant-loop-k
invariant-loop-k l = l.out ≡ map begin_of (take l.k l.allowed)
