use Rattle.std.proofs.Common.{◌≡◌, take}
use Rattle.vr_model.specs.tables.Numbers.{total_by}
use Rattle.vr_loads.specs.Loads.{value_of}
use Rattle.vr_loads.proofs.sums.sum_of.Given as goal

abbrev pub invariant-loop-k : goal.invariant-loop-k
invariant-loop-k l = l.sum ≡ total_by (value_of l.model l.d l.evaluator) (take l.k l.list)
