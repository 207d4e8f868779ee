use Rattle.vr_balance.specs.Sums.{AreSumsTo}
use Rattle.vr_loads.specs.Kept.{at_target}
use Rattle.vr_loads.specs.Loads.{value_of}
use Rattle.vr_loads.proofs.sums.write_sums.Given as goal

-- what is taken along the nodes so far
abbrev pub invariant-loop-k : goal.invariant-loop-k
invariant-loop-k l = AreSumsTo (at_target (value_of l.model l.d l.evaluator)) 0 l.list l.k l.sums
