use Rattle.std.proofs.Common.{◌≡◌, take}
use Rattle.std.specs.Prelude.{map}
use Rattle.vr_first_savings.specs.RouteEnds.{ends_of}
use Rattle.vr_first_savings.proofs.ends.ends_of_each.Given as goal

-- the ends of the routes so far
abbrev pub invariant-loop-i : goal.invariant-loop-i
invariant-loop-i l = l.ends.items ≡ map (ends_of l.closed.model.now) (take l.i l.routes)
