use Rattle.std.proofs.Common.{◌+◌, ◌-◌, ◌*◌, ◌<◌, ◌≤◌, ℕ}
use Rattle.vr_reach.specs.Alone.{GoesAlone}
use Rattle.vr_reach.specs.RunWalks.{line_along}
use Rattle.vr_reach.proofs.probing.goes_with_some.Given as goal

-- a walk for each number of breaks so far, none of which goes all the way
abbrev pub invariant-loop-taken : goal.invariant-loop-taken
invariant-loop-taken g l = record {
  some : 1 ≤ l.taken;
  none : (b : ℕ) → 1 ≤ b → b < l.taken → GoesAlone (line_along l.walk) l.walk.from.now l.walk.to.now l.walk.begin l.walk.last b → ⊥;
  count : l.tries ≤ l.fn.tries + (l.taken - 1) * (l.walk.last - l.walk.begin);
}
