use Rattle.std.proofs.Common.{ℕ, List}
use Rattle.vr_model.specs.declared.records.Model.{Model}
use Rattle.vr_costfilter.specs.GlobalCosts.{AreNextRowsIn}
use Rattle.vr_costfilter.specs.SortedEnds.{AreOrders}
use Rattle.vr_parts.proofs.SumLemmas.{upto}
use Rattle.vr_costfilter.proofs.reaches.write_in.Given as goal

-- the vehicles of the parts so far have their lists
abbrev pub invariant-loop-k : goal.invariant-loop-k
invariant-loop-k l = (model : Model) (lists : List (List ℕ))
    → AreNextRowsIn model l.d lists l.change l.orders l.next → AreOrders model l.d (upto lists l.change l.k) l.out
