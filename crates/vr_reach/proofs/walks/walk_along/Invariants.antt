use Rattle.vr_reach.specs.Rows.{IsForwardRow}
use Rattle.vr_reach.proofs.walks.walk_along.Given as goal

-- the levels are what stop k is reached at
abbrev pub invariant-loop-k : goal.invariant-loop-k
invariant-loop-k l = IsForwardRow l.line l.k l.here
