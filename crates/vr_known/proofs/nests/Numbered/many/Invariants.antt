use Rattle.std.proofs.Common.{◌≡◌, ◌+◌, ◌≤◌, length}
use Rattle.std.specs.Prelude.{filter}
use Rattle.vr_model.specs.tables.Numbers.{from_to}
use Rattle.vr_known.proofs.nests.Numbered.many.Given as goal

abbrev pub invariant-loop-k : goal.invariant-loop-k
invariant-loop-k g l = (l.many ≡ length (filter (g.Self.Numbered.passes l.self) (from_to l.from l.k))) × (l.many + l.from ≤ l.k)
