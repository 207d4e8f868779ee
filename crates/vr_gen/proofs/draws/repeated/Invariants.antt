use Rattle.std.proofs.Common.{◌-◌}
use Rattle.vr_gen.specs.Draws.{repeated}
use Rattle.vr_gen.proofs.Repeating.{Goes}
use Rattle.vr_gen.proofs.draws.repeated.Given as goal

-- what was drawn, and what is left to draw, is all
abbrev pub invariant-loop-k : goal.invariant-loop-k
invariant-loop-k g l = Goes g.T.Drawn.drawn l.all (l.count - l._k) l.words (repeated g.T.Drawn.drawn l.count l.initial.words)
