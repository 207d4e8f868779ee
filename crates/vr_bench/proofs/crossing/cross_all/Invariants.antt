use Rattle.vr_steps.specs.Levels.{IsCrossing}
use Rattle.vr_bench.proofs.crossing.cross_all.Given as goal

abbrev pub invariant-arcs : goal.invariant-arcs
invariant-arcs g l = IsCrossing l.a l.hop l.next l.breaks
