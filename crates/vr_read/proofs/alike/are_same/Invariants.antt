use Rattle.std.proofs.Common.{◌≡◌, drop}
use Rattle.vr_model.specs.tables.Numbers.{are_same_by}
use Rattle.vr_read.proofs.alike.are_same.Given as goal

abbrev pub invariant-loop-k : goal.invariant-loop-k
invariant-loop-k g l = are_same_by (g.T.Alike.same) (drop l.k l.one) (drop l.k l.other) ≡ are_same_by (g.T.Alike.same) l.one l.other
