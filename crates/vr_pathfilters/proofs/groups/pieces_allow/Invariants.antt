use Rattle.std.proofs.Common.{◌≡◌, true, take}
use Rattle.vr_pathfilters.specs.Groups.{allows_pieces}
use Rattle.vr_pathfilters.proofs.groups.pieces_allow.Given as goal

-- the groups of the nodes of the pieces so far allow what comes and goes
abbrev pub invariant-loop-k : goal.invariant-loop-k
invariant-loop-k l = allows_pieces l.filter.model.now l.filter.numbers l.routes.lists l.filter.balance (take l.k l.pieces) ≡ true
