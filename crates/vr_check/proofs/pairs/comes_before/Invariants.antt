use Rattle.std.proofs.Common.{◌≡◌, drop}
use Rattle.vr_model.specs.moves.Moves.{comes_before}
use Rattle.vr_check.proofs.pairs.comes_before.Given as goal

-- the node does not stand so far
abbrev pub invariant-loop-k : goal.invariant-loop-k
invariant-loop-k l = comes_before (drop l.k l.list) l.first l.second ≡ comes_before l.list l.first l.second
