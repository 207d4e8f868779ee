use Rattle.std.proofs.Common.{◌≡◌, ◌-◌, take, drop}
use Rattle.vr_printed.proofs.lists.visits_of.Given as goal

-- the visits so far
abbrev pub invariant-loop-k : goal.invariant-loop-k
invariant-loop-k l = l.list ≡ take (l.k - 2) (drop 1 l.nodes)
