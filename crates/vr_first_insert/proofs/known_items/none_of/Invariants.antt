use Rattle.std.proofs.Common.{◌≡◌, replicate}
use Rattle.vr_first_insert.specs.declared.known_best.KnownItem.TheVariants.{Nothing}
use Rattle.vr_first_insert.proofs.known_items.none_of.Given as goal

abbrev pub invariant-loop-i : goal.invariant-loop-i
invariant-loop-i l = l.found ≡ replicate l._i (record { known = Nothing; since = 0 })
