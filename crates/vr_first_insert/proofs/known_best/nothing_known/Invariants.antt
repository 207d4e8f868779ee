use Rattle.std.proofs.Common.{◌≡◌, replicate}
use Rattle.vr_first_insert.specs.declared.known_best.KnownItem.TheVariants.{Nothing}
use Rattle.vr_first_insert.proofs.known_best.nothing_known.Given as goal

abbrev pub invariant-loop-v : goal.invariant-loop-v
invariant-loop-v l = l.known.items ≡ replicate l._v (replicate l.count Nothing)
