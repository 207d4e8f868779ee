use Rattle.std.proofs.Common.{◌≡◌, ◌+◌, drop}
use Rattle.vr_model.specs.routes.Rules.{place_of}
use Rattle.vr_check.proofs.pairs.place_of.Given as goal

-- the node does not stand so far
abbrev pub invariant-loop-k : goal.invariant-loop-k
invariant-loop-k l = l.k + place_of (drop l.k l.list) l.node ≡ place_of l.list l.node
