use Rattle.std.proofs.Common.{◌≡◌, ◌-◌, ◌<◌, ◌≤◌, []}
use Rattle.vr_known.specs.Nests.{joined_of, rest_inside}
use Rattle.vr_known.specs.Passing.{Passes}
use Rattle.vr_known.proofs.nests.go_in.Given as goal

-- none is in hand, and those in front of the next number were passed over
abbrev pub invariant-loop-each : goal.invariant-loop-each
invariant-loop-each g l = record {
  fits : l.each.end < 4294967296;
  none : rest_inside g.F.Inner.Listed.rest l.each.inner ≡ [];
  fewer : l.each.end - l.each.next ≤ l.initial.each.end - l.initial.each.next;
  passes : Passes (g.S.Sieve.covers l.sieve)
      (joined_of (g.F.Family.passes l.initial.each.family) (g.F.Family.moves l.initial.each.family) l.initial.each.next l.initial.each.end) l.initial.count
      (joined_of (g.F.Family.passes l.each.family) (g.F.Family.moves l.each.family) l.each.next l.each.end) l.count;
}

abbrev pub decreases-loop-each : goal.decreases-loop-each
decreases-loop-each g l = l.each.end - l.each.next
