use Rattle.std.proofs.Common.{◌≡◌, take}
use Rattle.vr_plan.specs.Tables.{keys_of}
use Rattle.vr_plan.proofs.tables.keys_of.Given as goal

abbrev pub invariant-loop-k : goal.invariant-loop-k
invariant-loop-k l = l.keys.items ≡ keys_of (take l.k l.rows)
