use Rattle.vr_steps.specs.Levels.{AreLevels}
use Rattle.vr_bench.proofs.crossing.time_rounds.Given as goal

abbrev pub invariant-loop-round : goal.invariant-loop-round
invariant-loop-round g l = AreLevels l.breaks l.a
