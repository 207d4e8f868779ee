use Rattle.std.proofs.Common.{◌≡◌, length}
use Rattle.vr_ruin.proofs.known.KnownRoute.open.Given as goal

abbrev pub invariant-loop-d : goal.invariant-loop-d
invariant-loop-d l = length l.rows.items ≡ l._d
