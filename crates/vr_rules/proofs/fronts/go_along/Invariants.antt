use Rattle.std.proofs.Common.{take}
use Rattle.vr_rules.specs.Fronts.{AreFronts}
use Rattle.vr_rules.proofs.fronts.go_along.Given as goal

-- the fronts stand behind the visits so far
abbrev pub invariant-loop-k : goal.invariant-loop-k
invariant-loop-k l = AreFronts l.closed.model.now l.v (take l.k l.list) l.fronts.items
